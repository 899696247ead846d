-- What the profile takes and refuses, of a live host's bytes.
use Rattle.std.specs.List.{AllByRecursion}
use Rattle.std.proofs.Common.{◌≡◌, ℕ, List, [], ◌∷◌, ◌++◌, Bool, true, false, refl, sym, ap, ◌∙◌, subst, inl, inr, ◌==◌}
use Rattle.std.proofs.Common.{if◌then◌else◌, not}
use Rattle.std.proofs.lemmas.Bool.{false≢true, or_cases}
use Rattle.std.proofs.lemmas.List.{append-nil}
use borrow.Author.Tests.{eqb-true}
use Rattle.ws_code.specs.Code.{IsPrefix, IsUnfinished}
use Rattle.ws_stream.specs.Elements.{element_rules, spelling}
use Rattle.ws_stream.specs.Reasons.{command_reason, element_reason, is_one_of}
use Rattle.ws_stream.specs.declared.command_code.TheConstants.{ESCAPE}
use Rattle.ws_stream.specs.declared.element.Element.TheVariants.{ClearUnit}
use Rattle.ws_stream.specs.declared.place.Place.{Place}
use Rattle.ws_stream.specs.declared.place.Place.TheVariants.{Anything}
use Rattle.ws_extended.specs.ExtendedElements.{extended_rules}
use Rattle.ws_extended.specs.ExtendedLaws.{own_code}
use Rattle.ws_extended.specs.ExtendedReasons.{extended_reason, is_inner, other_commands, other_reason, own_commands}
use Rattle.ws_extended.specs.ExtendedReasons.{takes_command}
use Rattle.ws_extended.specs.declared.extended_element.ExtendedElement.TheVariants.{Profile}
use Rattle.ws_extended.specs.declared.extended_place.ExtendedPlace.TheVariants.{InProfile}
use Rattle.ws_extended.proofs.Lifting.{prefix_down}

-- what holds of all numbers of a list holds of one of them
one_of : (b : ℕ) (codes : List ℕ) (P : ℕ → Type 0) → is_one_of b codes ≡ true → AllByRecursion P codes → P b
one_of b [] P h all = absurd (false≢true h)
one_of b (c ∷ codes) P h all = elim (or_cases (b == c) (is_one_of b codes) h) [
  | inl e ↦ subst P (sym (eqb-true b c e)) all.0
  | inr r ↦ one_of b codes P r all.1
]

-- a command of the profile is none beside it
own_not_other : (code : ℕ) → is_one_of code own_commands ≡ true → is_one_of code other_commands ≡ false
own_not_other code h = one_of code own_commands (λ (n : ℕ). is_one_of n other_commands ≡ false) h
    (refl, (refl, (refl, (refl, (refl, (refl, tt))))))

pub same_reason : (place : Place) (bytes : List ℕ) (b : ℕ) → IsUnfinished element_rules place bytes
    → extended_reason (InProfile place) bytes b ≡ element_reason place bytes b
same_reason place [] b more = refl
same_reason place (c ∷ []) b more = go (c == ESCAPE) refl
  where
    go : (t : Bool) → (c == ESCAPE) ≡ t
        → (if (if t then false else true) then element_reason Anything (c ∷ []) b else command_reason b)
        ≡ element_reason place (c ∷ []) b
    go true e = rw e refl
    go false e = refl
same_reason place (c ∷ code ∷ bytes) b more = go (c == ESCAPE) refl
  where
    go : (t : Bool) → (c == ESCAPE) ≡ t → (if (if t then takes_command (InProfile place) code else true)
        then element_reason Anything (c ∷ code ∷ bytes) b
        else other_reason (InProfile place) (c ∷ code ∷ bytes) b)
        ≡ element_reason place (c ∷ code ∷ bytes) b
    go true e =
        let front : spelling more.unit ++ [] ≡ ESCAPE ∷ code ∷ (bytes ++ more.next ∷ more.rest) =
        append-nil (spelling more.unit) ∙ more.spelled
        ∙ ap (λ (n : ℕ). n ∷ code ∷ (bytes ++ more.next ∷ more.rest)) (eqb-true c ESCAPE e) in
        let other : is_one_of code other_commands ≡ false =
        own_not_other code (own_code more.unit [] code (bytes ++ more.next ∷ more.rest) more.stands.is_unit front) in
        rw other refl
    go false e = refl

-- what begins an element of the profile begins one of a live host
pub prefix_taken : (place : Place) (bytes : List ℕ) (b : ℕ) → IsUnfinished element_rules place bytes
    → IsPrefix element_rules place (bytes ++ b ∷ []) → IsPrefix extended_rules (InProfile place) (bytes ++ b ∷ [])
prefix_taken place bytes b more front = record {
  unit = Profile front.unit;
  rest = front.rest;
  stands = record { is_unit = front.stands.is_unit; may_follow = front.stands.may_follow };
  spelled = front.spelled;
}

-- with an escape a command of the profile begins
escape_begins : (place : Place) (b : ℕ) → (b == ESCAPE) ≡ true → IsPrefix element_rules place (b ∷ [])
escape_begins place b e = record {
  unit = ClearUnit;
  rest = 0x40 ∷ [];
  stands = record { is_unit = tt; may_follow = refl };
  spelled = ap (λ (n : ℕ). n ∷ 0x40 ∷ []) (sym (eqb-true b ESCAPE e));
}

-- what else a live host may send is the code of a command beside the profile
pub others_only : (place : Place) (bytes : List ℕ) (b : ℕ) → IsUnfinished element_rules place bytes
    → (IsPrefix element_rules place (bytes ++ b ∷ []) → ⊥) → IsPrefix extended_rules (InProfile place) (bytes ++ b ∷ [])
    → (bytes ≡ ESCAPE ∷ []) × (is_one_of b other_commands ≡ true)
others_only place bytes b more bad front =
    inner bytes more bad front (is_inner (InProfile place) (bytes ++ b ∷ [])) refl
  where
    inner : (bytes : List ℕ) → IsUnfinished element_rules place bytes
        → (IsPrefix element_rules place (bytes ++ b ∷ []) → ⊥)
        → IsPrefix extended_rules (InProfile place) (bytes ++ b ∷ []) → (t : Bool)
        → is_inner (InProfile place) (bytes ++ b ∷ []) ≡ t
        → (bytes ≡ ESCAPE ∷ []) × (is_one_of b other_commands ≡ true)
    inner bytes more bad front true e = absurd (bad (prefix_down (InProfile place) (bytes ++ b ∷ []) e front))
    inner [] more bad front false e = go (b == ESCAPE) refl e
      where
        go : (t : Bool) → (b == ESCAPE) ≡ t → (if t then false else true) ≡ false
            → ([] ≡ ESCAPE ∷ []) × (is_one_of b other_commands ≡ true)
        go true is e = absurd (bad (escape_begins place b is))
        go false is e = absurd (false≢true (sym e))
    inner (c ∷ []) more bad front false e = go (c == ESCAPE) refl (is_one_of b other_commands) refl e
      where
        go : (t : Bool) → (c == ESCAPE) ≡ t → (o : Bool) → is_one_of b other_commands ≡ o
            → (if t then not o else true) ≡ false → (c ∷ [] ≡ ESCAPE ∷ []) × (is_one_of b other_commands ≡ true)
        go true is true o e = (ap (λ (n : ℕ). n ∷ []) (eqb-true c ESCAPE is), o)
        go true is false o e = absurd (false≢true (sym e))
        go false is o q e = absurd (false≢true (sym e))
    inner (c ∷ code ∷ bytes) more bad front false e = go (c == ESCAPE) refl (is_one_of code other_commands) refl e
      where
        go : (t : Bool) → (c == ESCAPE) ≡ t → (o : Bool) → is_one_of code other_commands ≡ o
            → (if t then not o else true) ≡ false
            → (c ∷ code ∷ bytes ≡ ESCAPE ∷ []) × (is_one_of b other_commands ≡ true)
        go true is true o e =
            let front : spelling more.unit ++ [] ≡ ESCAPE ∷ code ∷ (bytes ++ more.next ∷ more.rest) =
            append-nil (spelling more.unit) ∙ more.spelled
            ∙ ap (λ (n : ℕ). n ∷ code ∷ (bytes ++ more.next ∷ more.rest)) (eqb-true c ESCAPE is) in
            absurd (false≢true (sym (own_not_other code
            (own_code more.unit [] code (bytes ++ more.next ∷ more.rest) more.stands.is_unit front)) ∙ o))
        go true is false o e = absurd (false≢true (sym e))
        go false is o q e = absurd (false≢true (sym e))
