-- What the machine of a live host's elements has at each byte.
use Rattle.std.proofs.Common.{◌≡◌, ◌≢◌, ℕ, ◌+◌, ◌<◌, List, [], ◌∷◌, ◌++◌, Bool, true, false, refl, sym, ap, ◌∙◌, subst}
use Rattle.std.proofs.Common.{arith, inl, inr, ◌==◌, ◌||◌, not, take, drop, get_or}
use Rattle.std.proofs.lemmas.Bool.{false≢true, or_cases}
use Rattle.std.proofs.lemmas.List.{get_or_default}
use borrow.Author.Tests.{eqb-true}
use Rattle.ws_code.specs.Code.{IsPrefix, IsUnfinished, Stands}
use Rattle.ws_code.specs.DataByte.{is_order}
use Rattle.ws_code.specs.Run.{reading}
use Rattle.ws_code.specs.Step.{IsStep}
use Rattle.ws_code.specs.declared.code.Push.{Push}
use Rattle.ws_stream.specs.ElementLaws.{first}
use Rattle.ws_stream.specs.Elements.{allows_orders, element_rules}
use Rattle.ws_stream.specs.Reasons.{element_reason}
use Rattle.ws_stream.specs.declared.command_code.TheConstants.{ESCAPE, WRITE_STRUCTURED_FIELD}
use Rattle.ws_stream.specs.declared.element.Element.{Element}
use Rattle.ws_stream.specs.declared.element.Element.TheVariants.{ClearUnit, ClearFormat, Write, ReadInput, ReadMdt}
use Rattle.ws_stream.specs.declared.element.Element.TheVariants.{ReadMdtAlternate, Ic, Put}
use Rattle.ws_stream.specs.declared.order_code.TheConstants.{INSERT_CURSOR}
use Rattle.ws_stream.specs.declared.place.Place.{Place}
use Rattle.ws_stream.specs.declared.place.Place.TheVariants.{CommandsOnly, Anything}
use Rattle.ws_screen.proofs.Applies.{cut_at, longer_by}
use Rattle.ws_extended.specs.ExtendedElements.{extended_follows, extended_rules, extended_spelling, query_field}
use Rattle.ws_extended.specs.ExtendedMachine.{inner_place, fits_phase}
use Rattle.ws_extended.specs.ExtendedReasons.{extended_reason, is_inner, takes_command, takes_first}
use Rattle.ws_extended.specs.declared.ask.Ask.{Ask}
use Rattle.ws_extended.specs.declared.ask.Ask.TheVariants.{Query, SaveScreen}
use Rattle.ws_extended.specs.declared.extended_commands.phase.Phase.{Phase}
use Rattle.ws_extended.specs.declared.extended_commands.phase.Phase.TheVariants.{Begin, Escaped}
use Rattle.ws_extended.specs.declared.extended_element.ExtendedElement.{ExtendedElement}
use Rattle.ws_extended.specs.declared.extended_element.ExtendedElement.TheVariants.{Profile, Text, RestoreScreen}
use Rattle.ws_extended.specs.declared.extended_element.ExtendedElement.TheVariants.{Roll, WriteError, Asks}
use Rattle.ws_extended.specs.declared.extended_place.ExtendedPlace.{ExtendedPlace}
use Rattle.ws_extended.specs.declared.extended_place.ExtendedPlace.TheVariants.{InProfile, ErrorText, Asked}
use Rattle.ws_extended.proofs.Lifting.{escape_goes_on}

-- WHAT THE PROFILE'S MACHINE HAS

pub fresh : (place : ExtendedPlace) (phase : Phase) (bytes : List ℕ) → phase ≡ Begin → fits_phase place phase bytes ≡ true
    → bytes ≡ []
fresh place phase bytes is sound =
    go bytes (subst (λ (p : Phase). fits_phase place p bytes ≡ true) is sound)
  where
    go : (bytes : List ℕ) → fits_phase place Begin bytes ≡ true → bytes ≡ []
    go [] s = refl
    go (b ∷ more) s = absurd (false≢true s)

pub has_escape : (place : ExtendedPlace) (phase : Phase) (bytes : List ℕ) → phase ≡ Escaped
    → fits_phase place phase bytes ≡ true → bytes ≡ ESCAPE ∷ []
has_escape place phase bytes is sound =
    go bytes (subst (λ (p : Phase). fits_phase place p bytes ≡ true) is sound)
  where
    go : (bytes : List ℕ) → fits_phase place Escaped bytes ≡ true → bytes ≡ ESCAPE ∷ []
    go [] s = absurd (false≢true s)
    go (b ∷ []) s = ap (λ (n : ℕ). n ∷ []) (eqb-true b ESCAPE s)
    go (b ∷ c ∷ more) s = absurd (false≢true s)

pub same_place : (p q : Place) → allows_orders p ≡ allows_orders q → p ≡ q
same_place CommandsOnly CommandsOnly e = refl
same_place CommandsOnly Anything e = absurd (false≢true e)
same_place Anything CommandsOnly e = absurd (false≢true (sym e))
same_place Anything Anything e = refl

-- an escape alone
pub escape_begun : (place : Place) → IsUnfinished element_rules place (ESCAPE ∷ [])
escape_begun place = record {
  unit = ClearUnit;
  next = 0x40;
  rest = [];
  stands = record { is_unit = tt; may_follow = refl };
  spelled = refl;
}

asks_stand : (place : ExtendedPlace) (ask : Ask) → Stands extended_rules place (Asks ask)
asks_stand place ask = record { is_unit = tt; may_follow = go place }
  where
    go : (place : ExtendedPlace) → extended_follows place (Asks ask) ≡ true
    go (InProfile place) = refl
    go ErrorText = refl
    go (Asked before) = refl

pub escape_more : (place : ExtendedPlace) → IsUnfinished extended_rules place (ESCAPE ∷ [])
escape_more place = record {
  unit = Asks SaveScreen;
  next = 0x02;
  rest = [];
  stands = asks_stand place SaveScreen;
  spelled = refl;
}

pub query_begun : (place : ExtendedPlace) → IsUnfinished extended_rules place (ESCAPE ∷ WRITE_STRUCTURED_FIELD ∷ [])
query_begun place = record {
  unit = Asks Query;
  next = 0x00;
  rest = 0x05 ∷ 0xD9 ∷ 0x70 ∷ 0x00 ∷ [];
  stands = asks_stand place Query;
  spelled = refl;
}

pub escape_taken : (place : Place) (bytes : List ℕ) (b : ℕ) (place' : Place) (begun' : List ℕ) (push : Push Element)
    → bytes ≡ [] → b ≡ ESCAPE → IsStep element_rules (reading place bytes) b (reading place' begun') push
    → (place' ≡ place) × (begun' ≡ ESCAPE ∷ [])
escape_taken place bytes b place' begun' push none is step =
    escape_goes_on place place' begun' push
    (subst (λ (n : ℕ). IsStep element_rules (reading place []) n (reading place' begun') push) is
    (subst (λ (l : List ℕ). IsStep element_rules (reading place l) b (reading place' begun') push) none step))

-- REASONS

-- where the profile's machine takes a first byte, it refuses it for the same reason
pub first_reasons : (place : ExtendedPlace) (b : ℕ) → b < 256 → takes_first place b ≡ true
    → (IsPrefix element_rules (inner_place place) (b ∷ []) → ⊥)
    → element_reason (inner_place place) [] b ≡ extended_reason place [] b
first_reasons (InProfile place) b small takes bad = refl
first_reasons (Asked ask) b small takes bad = absurd (false≢true takes)
first_reasons ErrorText b small takes bad = elim (or_cases (b == INSERT_CURSOR) (not (is_order b)) takes) [
  | inl is ↦ absurd (bad (record {
    unit = Ic 0;
    rest = 1 ∷ 1 ∷ [];
    stands = record { is_unit = omega arith; may_follow = refl };
    spelled = ap (λ (n : ℕ). n ∷ 1 ∷ 1 ∷ []) (sym (eqb-true b INSERT_CURSOR is));
  }))
  | inr data_byte ↦ absurd (bad (record {
    unit = Put b;
    rest = [];
    stands = record { is_unit = (small, flip (is_order b) data_byte); may_follow = refl };
    spelled = refl;
  }))
]
  where
    flip : (t : Bool) → not t ≡ true → t ≡ false
    flip true e = absurd (false≢true e)
    flip false e = refl

-- and a command
pub command_reasons : (place : ExtendedPlace) (code : ℕ) → takes_command place code ≡ true
    → (IsPrefix element_rules (inner_place place) (ESCAPE ∷ code ∷ []) → ⊥)
    → element_reason (inner_place place) (ESCAPE ∷ []) code ≡ extended_reason place (ESCAPE ∷ []) code
command_reasons (InProfile place) code takes bad = refl
command_reasons (Asked ask) code takes bad = absurd (false≢true takes)
command_reasons ErrorText code takes bad = refl

-- and a byte within an element
pub inside_reasons : (place : ExtendedPlace) (bytes : List ℕ) (b : ℕ) → is_inner place bytes ≡ true
    → element_reason (inner_place place) bytes b ≡ extended_reason place bytes b
inside_reasons place [] b h = absurd (false≢true h)
inside_reasons place (code ∷ bytes) b h = rw h refl

-- REFUSALS

-- with a byte that isn't taken nothing begins
pub none_begins : (place : ExtendedPlace) (b : ℕ) → b ≢ ESCAPE → takes_first place b ≡ false
    → IsPrefix extended_rules place (b ∷ []) → ⊥
none_begins place b ne takes front = go place front.unit front.stands front.spelled takes
  where
    go : (place : ExtendedPlace) (u : ExtendedElement) → Stands extended_rules place u
        → extended_spelling u ≡ b ∷ front.rest → takes_first place b ≡ false → ⊥
    go (InProfile place) u s e t = false≢true (sym t)
    go ErrorText (Text (Ic place)) s e t = let is : 0x13 ≡ b = ap first e in
        false≢true (sym t ∙ ap (takes_first ErrorText) (sym is))
    go ErrorText (Text (Put x)) s e t = let is : x ≡ b = ap first e in
        false≢true (sym t ∙ ap (takes_first ErrorText) (sym is) ∙ data_taken x s.is_unit.1)
      where
        data_taken : (x : ℕ) → is_order x ≡ false → takes_first ErrorText x ≡ true
        data_taken x h = rw h (or_true (x == INSERT_CURSOR))
          where
            or_true : (t : Bool) → (t || true) ≡ true
            or_true true = refl
            or_true false = refl
    go ErrorText (Text u) s e t = false≢true s.may_follow
    go ErrorText (Profile ClearUnit) s e t = ne (sym (ap first e))
    go ErrorText (Profile ClearFormat) s e t = ne (sym (ap first e))
    go ErrorText (Profile (Write x y)) s e t = ne (sym (ap first e))
    go ErrorText (Profile (ReadInput x y)) s e t = ne (sym (ap first e))
    go ErrorText (Profile (ReadMdt x y)) s e t = ne (sym (ap first e))
    go ErrorText (Profile (ReadMdtAlternate x y)) s e t = ne (sym (ap first e))
    go ErrorText (Profile u) s e t = false≢true s.may_follow
    go ErrorText RestoreScreen s e t = ne (sym (ap first e))
    go ErrorText (Roll r) s e t = ne (sym (ap first e))
    go ErrorText WriteError s e t = ne (sym (ap first e))
    go ErrorText (Asks ask) s e t = ne (sym (ap first e))
    go (Asked before) (Asks ask) s e t = ne (sym (ap first e))
    go (Asked before) (Profile u) s e t = false≢true s.may_follow
    go (Asked before) (Text u) s e t = false≢true s.may_follow
    go (Asked before) RestoreScreen s e t = false≢true s.may_follow
    go (Asked before) (Roll r) s e t = false≢true s.may_follow
    go (Asked before) WriteError s e t = false≢true s.may_follow

-- the query so far, and its next byte
query_cut : (count : ℕ) → count < 5 → take count query_field
    ++ get_or query_field count 0 ∷ drop (count + 1) query_field ≡ query_field
query_cut count small = cut_at query_field count (get_or query_field count 0) small
    (get_or_default query_field count 0 (get_or query_field count 0) small)

pub query_more : (place : ExtendedPlace) (count b : ℕ) → count < 4 → b ≡ get_or query_field count 0
    → (take (count + 1) query_field ≡ take count query_field ++ b ∷ [])
    × IsUnfinished extended_rules place (ESCAPE ∷ WRITE_STRUCTURED_FIELD ∷ (take count query_field ++ b ∷ []))
query_more place count b small is =
    let longer : take (count + 1) query_field ≡ take count query_field ++ b ∷ [] =
    longer_by query_field count b (omega arith) (is ∙ get_or_default query_field count 0 b (omega arith)) in (
      longer,
      record {
        unit = Asks Query;
        next = get_or query_field (count + 1) 0;
        rest = drop (count + 1 + 1) query_field;
        stands = asks_stand place Query;
        spelled = ap (λ (l : List ℕ). ESCAPE ∷ WRITE_STRUCTURED_FIELD ∷ l)
            (sym (query_cut (count + 1) (omega arith)) ∙ ap (λ (l : List ℕ). l
            ++ get_or query_field (count + 1) 0 ∷ drop (count + 1 + 1) query_field) longer);
      },
    )
