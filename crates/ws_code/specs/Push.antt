-- What a machine answers to a byte.

use Rattle.ws_code.specs.declared.reason.Reason.{Reason}
use Rattle.ws_code.specs.declared.code.Push.{Push}
use Rattle.ws_code.specs.declared.code.Push.TheVariants.{More, Unit as Whole, Bad}

-- a fact for each answer of a machine
abbrev pub MatchPush : {U : Type 0} → Push U → Type 0 → (U → Type 0) → (Reason → Type 0) → Type 0
MatchPush More more whole bad = more
MatchPush (Whole unit) more whole bad = whole unit
MatchPush (Bad reason) more whole bad = bad reason
