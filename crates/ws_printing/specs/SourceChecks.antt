-- A check of what a source gives, which holds none of it.

use Rattle.std.specs.Prelude.{ℕ, List, Option, Some, None, ◌⊎◌}
use Rattle.ws_code.specs.Code.{Rules}
use Rattle.ws_code.specs.Device.{Reader, Gave, GaveAll, ReadFault}
use Rattle.ws_code.specs.declared.reason.Reason.{Reason}
use Rattle.ws_record.specs.Live.{Watching}
use Rattle.ws_record.specs.Refusal.{IsRefused}
use Rattle.ws_printing.specs.Checking.{Counts}
use Rattle.ws_printing.specs.declared.check.Tally.{Tally}

-- no byte is refused, and the tally is of the bytes' items; or this one is
abbrev pub IsPieceTaken : {Place U : Type 0} → Rules Place U → Watching Place → Tally → List ℕ → Option (ℕ × Reason)
    → Type 0
IsPieceTaken rules live tally bytes None = Counts rules live tally bytes
IsPieceTaken rules live tally bytes (Some refusal) = IsRefused rules bytes refusal.0 refusal.1

-- a byte is refused
abbrev pub HasRefusal : {Place U : Type 0} → Rules Place U → List ℕ → Type 0
HasRefusal rules bytes = (place : ℕ) × (reason : Reason) × IsRefused rules bytes place reason

module _ {S : Type 0} (reader : Reader S) (from to : S) where
  -- a source gave bytes of which such are refused: all, up to its end, or some with a refused one, after which no more
  -- is read
  abbrev pub GaveEnough : (List ℕ → Type 0) → List ℕ → Type 0
  GaveEnough IsBad bytes = GaveAll reader from to bytes
      ⊎ ((reads : ℕ) × Gave reader from to reads bytes × IsBad bytes)

  -- a source didn't give its bytes, after some of which such are refused and none of these is
  abbrev pub FailedBefore : (List ℕ → Type 0) → Type 0
  FailedBefore IsBad = (bytes : List ℕ) × ReadFault reader from to bytes × ¬ IsBad bytes
