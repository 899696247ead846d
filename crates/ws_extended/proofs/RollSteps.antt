-- The bytes with which a Roll begins, and goes on.
use Rattle.std.proofs.Common.{◌≡◌, ◌⊎◌, ℕ, List, [], ◌∷◌, ◌++◌, true, refl, ap, ◌∙◌, arith, inl, inr}
use Rattle.std.proofs.lemmas.Bool.{false≢true}
use Rattle.std.proofs.lemmas.List.{append-nil}
use Rattle.ws_code.specs.Code.{IsUnfinished, Stands}
use Rattle.ws_stream.specs.ElementLaws.{second}
use Rattle.ws_stream.specs.Elements.{spelling}
use Rattle.ws_stream.specs.declared.command_code.TheConstants.{ESCAPE, ROLL}
use Rattle.ws_stream.specs.declared.place.Place.{Place}
use Rattle.ws_extended.specs.ExtendedElements.{extended_follows, extended_rules, extended_spelling}
use Rattle.ws_extended.specs.ExtendedLaws.{own_code}
use Rattle.ws_extended.specs.RollParts.{IsRoll, RollParts}
use Rattle.ws_extended.specs.declared.ask.Ask.TheVariants.{Query, SaveScreen, ReadScreen, ReadImmediate}
use Rattle.ws_extended.specs.declared.ask.Ask.TheVariants.{ReadImmediateAlternate}
use Rattle.ws_extended.specs.declared.extended_element.ExtendedElement.{ExtendedElement}
use Rattle.ws_extended.specs.declared.extended_element.ExtendedElement.TheVariants.{Profile, Text, RestoreScreen}
use Rattle.ws_extended.specs.declared.extended_element.ExtendedElement.TheVariants.{Roll, WriteError, Asks}
use Rattle.ws_extended.specs.declared.extended_place.ExtendedPlace.{ExtendedPlace}
use Rattle.ws_extended.specs.declared.extended_place.ExtendedPlace.TheVariants.{InProfile, ErrorText, Asked}

-- a Roll that may stand at the place has these bytes after its code
pub record RollsBy (place : ExtendedPlace) (bytes : List ℕ) : Type 0 where
  pub roll : RollParts
  pub legal : IsRoll roll
  pub may : extended_follows place (Roll roll) ≡ true
  pub spelled : roll.control ∷ roll.top ∷ roll.bottom ∷ [] ≡ bytes

-- an element that begins with an escape and its code is one
rolls_by : (place : ExtendedPlace) (bytes : List ℕ) (u : ExtendedElement) → Stands extended_rules place u
    → extended_spelling u ≡ ESCAPE ∷ ROLL ∷ bytes → RollsBy place bytes
rolls_by place bytes (Roll r) s e = record { roll = r; legal = s.is_unit; may = s.may_follow; spelled = cc }
rolls_by place bytes (Profile x) s e =
    absurd (false≢true (own_code x [] ROLL bytes s.is_unit (append-nil (spelling x) ∙ e)))
rolls_by place bytes (Text x) s e =
    absurd (false≢true (own_code x [] ROLL bytes s.is_unit (append-nil (spelling x) ∙ e)))
rolls_by place bytes RestoreScreen s e = absurd (omega (arith, ap second e))
rolls_by place bytes WriteError s e = absurd (omega (arith, ap second e))
rolls_by place bytes (Asks Query) s e = absurd (omega (arith, ap second e))
rolls_by place bytes (Asks SaveScreen) s e = absurd (omega (arith, ap second e))
rolls_by place bytes (Asks ReadScreen) s e = absurd (omega (arith, ap second e))
rolls_by place bytes (Asks ReadImmediate) s e = absurd (omega (arith, ap second e))
rolls_by place bytes (Asks ReadImmediateAlternate) s e = absurd (omega (arith, ap second e))

-- where one has begun, others may stand
pub may_roll : (place : ExtendedPlace) (bytes : List ℕ) → IsUnfinished extended_rules place (ESCAPE ∷ ROLL ∷ bytes)
    → (r : RollParts) → IsRoll r → Stands extended_rules place (Roll r)
may_roll place bytes more r legal = record {
  is_unit = legal;
  may_follow = any place (rolls_by place (bytes ++ more.next ∷ more.rest) more.unit more.stands more.spelled).roll
      (rolls_by place (bytes ++ more.next ∷ more.rest) more.unit more.stands more.spelled).may;
}
  where
    any : (place : ExtendedPlace) (q : RollParts) → extended_follows place (Roll q) ≡ true
        → extended_follows place (Roll r) ≡ true
    any (InProfile place) q may = refl
    any ErrorText q may = refl
    any (Asked ask) q may = may

-- a Roll of a byte and rows
abbrev pub a_roll : ℕ → ℕ → ℕ → RollParts
a_roll control top bottom = record { control = control; top = top; bottom = bottom }

-- with its code one begins, where commands stand
pub roll_begun : (place : ExtendedPlace) → ((p : Place) × (place ≡ InProfile p)) ⊎ (place ≡ ErrorText)
    → IsUnfinished extended_rules place (ESCAPE ∷ ROLL ∷ [])
roll_begun place at = record {
  unit = Roll (a_roll 0 1 24);
  next = 0;
  rest = 1 ∷ 24 ∷ [];
  stands = record {
    is_unit = record {
      byte = omega arith;
      unset = omega arith;
      low = omega arith;
      order = omega arith;
      high = omega arith;
    };
    may_follow = elim at [
      | inl p ↦ ap (λ (q : ExtendedPlace). extended_follows q (Roll (a_roll 0 1 24))) p.1
      | inr e ↦ ap (λ (q : ExtendedPlace). extended_follows q (Roll (a_roll 0 1 24))) e
    ];
  };
  spelled = refl;
}

-- after a control byte
pub control_more : (place : ExtendedPlace) (b : ℕ) → IsUnfinished extended_rules place (ESCAPE ∷ ROLL ∷ [])
    → IsRoll (a_roll b 1 24) → IsUnfinished extended_rules place (ESCAPE ∷ ROLL ∷ b ∷ [])
control_more place b more legal = record {
  unit = Roll (a_roll b 1 24);
  next = 1;
  rest = 24 ∷ [];
  stands = may_roll place [] more (a_roll b 1 24) legal;
  spelled = refl;
}

-- and its first row
pub top_more : (place : ExtendedPlace) (control b : ℕ)
    → IsUnfinished extended_rules place (ESCAPE ∷ ROLL ∷ control ∷ []) → IsRoll (a_roll control b 24)
    → IsUnfinished extended_rules place (ESCAPE ∷ ROLL ∷ control ∷ b ∷ [])
top_more place control b more legal = record {
  unit = Roll (a_roll control b 24);
  next = 24;
  rest = [];
  stands = may_roll place (control ∷ []) more (a_roll control b 24) legal;
  spelled = refl;
}
