-- The body of the tests: every byte is a unit, at the front 04 alone, an escape. After an escape no list may end.
-- A place is the byte before it, if there is one.

use Rattle.std.specs.Prelude.{◌≡◌, ◌≢◌, ◌<◌, ◌==◌, ◌||◌, not, ℕ, List, [], ◌∷◌, Bool, true, Option, None, Some, is_some}
use Rattle.std.specs.Prelude.{refl}
use Rattle.std.proofs.Common.{arith}
use Rattle.ws_code.specs.Code.{Rules, IsPrefixFree, IsUnfinished, IsChain, place_after}
use Rattle.ws_code.specs.declared.reason.Reason.TheVariants.{NoEscape}

-- a body may end anywhere but after the byte 04
abbrev pub lets_end : Option ℕ → Bool
lets_end None = true
lets_end (Some before) = not (before == 0x04)

-- the test's body: any byte is a unit, and its place is the byte before
abbrev pub escaped_rules : Rules (Option ℕ) ℕ
escaped_rules = record {
  first = None;
  after = λ b. Some b;
  is_unit = λ b. b < 256;
  may_follow = λ place b. is_some place || (b == 0x04);
  may_end = lets_end;
  spelling = λ b. b ∷ [];
  reason = λ _ _ _. NoEscape;
}

-- each unit of the test's body is spelled by at least one byte
pub escaped_nonempty : (b : ℕ) → b < 256 → escaped_rules.spelling b ≢ []
escaped_nonempty b h e = cc

-- no unit's spelling begins another's
pub escaped_prefix_free : IsPrefixFree escaped_rules
escaped_prefix_free place u v rest hu hv e = cc

-- a next unit can come at each place
pub escaped_begins : (place : Option ℕ) → IsUnfinished escaped_rules place []
escaped_begins None = record {
  unit = 4;
  next = 4;
  rest = [];
  stands = record { is_unit = omega arith; may_follow = refl };
  spelled = refl;
}
escaped_begins (Some before) = record {
  unit = 4;
  next = 4;
  rest = [];
  stands = record { is_unit = omega arith; may_follow = refl };
  spelled = refl;
}

-- from each place a body can come to its end
pub escaped_can_end : (place : Option ℕ)
    → (units : List ℕ) × IsChain escaped_rules place units
    × (escaped_rules.may_end (place_after escaped_rules place units) ≡ true)
escaped_can_end None = ([], tt, refl)
escaped_can_end (Some before) = (0x41 ∷ [], (record { is_unit = omega arith; may_follow = refl }, tt), refl)
