-- What the profile's machine makes of a byte, told of a live host's elements.
use Rattle.std.proofs.Common.{◌≡◌, ℕ, List, [], ◌∷◌, ◌++◌, Bool, true, false, refl, sym, ap, ◌∙◌, arith, not, ◌==◌}
use Rattle.std.proofs.Common.{if◌then◌else◌}
use Rattle.std.proofs.lemmas.Bool.{false≢true}
use Rattle.std.proofs.lemmas.List.{append-nil}
use Rattle.ws_code.specs.Code.{IsPrefix, IsSpelled, IsUnfinished, Stands}
use Rattle.ws_code.specs.Run.{reading}
use Rattle.ws_code.specs.Step.{IsStep}
use Rattle.ws_code.specs.declared.code.Push.{Push}
use Rattle.ws_code.specs.declared.code.Push.TheVariants as answer
use Rattle.ws_stream.specs.ElementLaws.{first, no_code}
use Rattle.ws_stream.specs.Elements.{IsElement, element_rules, spelling}
use Rattle.ws_stream.specs.Reasons.{is_one_of}
use Rattle.ws_stream.specs.declared.command_code.TheConstants.{ESCAPE}
use Rattle.ws_stream.specs.declared.element.Element.{Element}
use Rattle.ws_stream.specs.declared.element.Element.TheVariants.{ClearUnit, ClearFormat, Write, ReadInput, ReadMdt}
use Rattle.ws_stream.specs.declared.element.Element.TheVariants.{ReadMdtAlternate, Soh, Ra, Ea, Sba, Ic, Mc, Sf, Put}
use Rattle.ws_stream.specs.declared.place.Place.{Place}
use Rattle.ws_extended.specs.ExtendedElements.{extended_follows, extended_rules, extended_spelling, is_text}
use Rattle.ws_extended.specs.ExtendedLaws.{IsOther, anywhere, other_front}
use Rattle.ws_extended.specs.ExtendedMachine.{inner_place, lift}
use Rattle.ws_extended.specs.ExtendedReasons.{is_inner, other_commands, takes_command, takes_first}
use Rattle.ws_extended.specs.declared.extended_element.ExtendedElement.{ExtendedElement}
use Rattle.ws_extended.specs.declared.extended_element.ExtendedElement.TheVariants.{Profile, Text}
use Rattle.ws_extended.specs.declared.extended_place.ExtendedPlace.{ExtendedPlace}
use Rattle.ws_extended.specs.declared.extended_place.ExtendedPlace.TheVariants.{InProfile, ErrorText, Asked}

-- bytes that only an element of the profile begins with stay so
pub inner_grows : (place : ExtendedPlace) (bytes more : List ℕ) → is_inner place bytes ≡ true
    → is_inner place (bytes ++ more) ≡ true
inner_grows place [] more h = absurd (false≢true h)
inner_grows place (b ∷ []) [] h = h
inner_grows place (b ∷ []) (code ∷ more) h = go (b == ESCAPE) h
  where
    go : (t : Bool) → (if t then false else takes_first place b) ≡ true
        → (if t then takes_command place code else takes_first place b) ≡ true
    go true h = absurd (false≢true h)
    go false h = h
inner_grows place (b ∷ code ∷ bytes) more h = h

-- a command beside the profile doesn't begin so
other_out : (place : ExtendedPlace) (u : ExtendedElement) → IsOther u → is_inner place (extended_spelling u) ≡ false
other_out place u o =
    let front : _ = other_front u o in
    ap (is_inner place) front.2 ∙ go place front.0 front.4
  where
    go : (place : ExtendedPlace) (code : ℕ) → is_one_of code other_commands ≡ true
        → takes_command place code ≡ false
    go (InProfile place) code other = ap not other
    go ErrorText code other = ap not other
    go (Asked ask) code other = refl

-- an element of the profile that stands at the place, spelled alike
pub record Below (place : ExtendedPlace) (bytes : List ℕ) : Type 0 where
  pub element : Element
  pub stands : Stands element_rules (inner_place place) element
  pub spelled : spelling element ≡ bytes

-- what begins so is an element of the profile
pub down : (place : ExtendedPlace) (u : ExtendedElement) (bytes rest : List ℕ) → is_inner place bytes ≡ true
    → Stands extended_rules place u → extended_spelling u ≡ bytes ++ rest → Below place (extended_spelling u)
down (InProfile place) (Profile e) bytes rest h s e' =
    record { element = e; stands = record { is_unit = s.is_unit; may_follow = s.may_follow }; spelled = refl }
down ErrorText (Profile e) bytes rest h s e' =
    record { element = e; stands = anywhere e s.is_unit; spelled = refl }
down ErrorText (Text e) bytes rest h s e' =
    record { element = e; stands = anywhere e s.is_unit; spelled = refl }
down (InProfile place) (Text e) bytes rest h s e' =
    let no : extended_follows (InProfile place) (Text e) ≡ true = s.may_follow in absurd (false≢true no)
down (Asked ask) (Profile e) bytes rest h s e' =
    let no : extended_follows (Asked ask) (Profile e) ≡ true = s.may_follow in absurd (false≢true no)
down (Asked ask) (Text e) bytes rest h s e' =
    let no : extended_follows (Asked ask) (Text e) ≡ true = s.may_follow in absurd (false≢true no)
down place u bytes rest h s same =
    absurd (false≢true (sym (other_out place u tt) ∙ ap (is_inner place) same ∙ inner_grows place bytes rest h))

-- its spelling
pub lift_spelled : (place : ExtendedPlace) (e : Element) → extended_spelling (lift place e) ≡ spelling e
lift_spelled (InProfile place) e = refl
lift_spelled (Asked ask) e = refl
lift_spelled ErrorText e = go (is_text e)
  where
    go : (t : Bool) → extended_spelling (if t then Text e else Profile e) ≡ spelling e
    go true = refl
    go false = refl

never : {A : Type 0} (bytes : List ℕ) (ask : _) → is_inner (Asked ask) bytes ≡ true → A
never [] ask h = absurd (false≢true h)
never (b ∷ []) ask h = go (b == ESCAPE) h
  where
    go : {A : Type 0} (t : Bool) → (if t then false else false) ≡ true → A
    go true h = absurd (false≢true h)
    go false h = absurd (false≢true h)
never (b ∷ code ∷ more) ask h = go (b == ESCAPE) h
  where
    go : {A : Type 0} (t : Bool) → (if t then false else false) ≡ true → A
    go true h = absurd (false≢true h)
    go false h = absurd (false≢true h)

-- in an error text it is text or a command
text_stands : (e : Element) → IsElement e → is_inner ErrorText (spelling e) ≡ true
    → Stands extended_rules ErrorText (lift ErrorText e)
text_stands (ReadInput cc1 cc2) h k = record { is_unit = h; may_follow = refl }
text_stands (ReadMdt cc1 cc2) h k = record { is_unit = h; may_follow = refl }
text_stands (ReadMdtAlternate cc1 cc2) h k = record { is_unit = h; may_follow = refl }
text_stands (Ic place) h k = record { is_unit = h; may_follow = refl }
text_stands (Put byte) h k = record { is_unit = h; may_follow = refl }
text_stands ClearUnit h k = record { is_unit = h; may_follow = refl }
text_stands ClearFormat h k = record { is_unit = h; may_follow = refl }
text_stands (Write cc1 cc2) h k = record { is_unit = h; may_follow = refl }
text_stands (Soh bytes) h k = absurd (false≢true k)
text_stands (Ra place byte) h k = absurd (false≢true k)
text_stands (Ea place kinds) h k = absurd (false≢true k)
text_stands (Sba place) h k = absurd (false≢true k)
text_stands (Mc place) h k = absurd (false≢true k)
text_stands (Sf f) h k = absurd (false≢true (sym (field_out (rest (spelling (Sf f)))) ∙ k))
  where
    rest : List ℕ → List ℕ
    rest [] = []
    rest (b ∷ more) = more

    field_out : (more : List ℕ) → is_inner ErrorText (0x1D ∷ more) ≡ false
    field_out [] = refl
    field_out (b ∷ more) = refl

-- an element of the profile that begins so stands at the place
pub up : (place : ExtendedPlace) (e : Element) (bytes rest : List ℕ) → is_inner place bytes ≡ true
    → Stands element_rules (inner_place place) e → spelling e ≡ bytes ++ rest
    → Stands extended_rules place (lift place e)
up (InProfile place) e bytes rest h s same = record { is_unit = s.is_unit; may_follow = s.may_follow }
up (Asked ask) e bytes rest h s same = never bytes ask h
up ErrorText e bytes rest h s same =
    text_stands e s.is_unit (ap (is_inner ErrorText) same ∙ inner_grows ErrorText bytes rest h)

-- a unit that isn't whole, in both grammars
pub unfinished_up : (place : ExtendedPlace) (bytes : List ℕ) → is_inner place bytes ≡ true
    → IsUnfinished element_rules (inner_place place) bytes → IsUnfinished extended_rules place bytes
unfinished_up place bytes h more = record {
  unit = lift place more.unit;
  next = more.next;
  rest = more.rest;
  stands = up place more.unit bytes (more.next ∷ more.rest) h more.stands more.spelled;
  spelled = lift_spelled place more.unit ∙ more.spelled;
}

pub unfinished_down : (place : ExtendedPlace) (bytes : List ℕ) → is_inner place bytes ≡ true
    → IsUnfinished extended_rules place bytes → IsUnfinished element_rules (inner_place place) bytes
unfinished_down place bytes h more =
    let below : Below place (extended_spelling more.unit) =
    down place more.unit bytes (more.next ∷ more.rest) h more.stands more.spelled in
    record {
      unit = below.element;
      next = more.next;
      rest = more.rest;
      stands = below.stands;
      spelled = below.spelled ∙ more.spelled;
    }

pub spelled_up : (place : ExtendedPlace) (bytes : List ℕ) (e : Element) → is_inner place bytes ≡ true
    → IsSpelled element_rules (inner_place place) bytes e → IsSpelled extended_rules place bytes (lift place e)
spelled_up place bytes e h whole = record {
  stands = up place e bytes [] h whole.stands (whole.spelled ∙ sym (append-nil bytes));
  spelled = lift_spelled place e ∙ whole.spelled;
}

pub prefix_down : (place : ExtendedPlace) (bytes : List ℕ) → is_inner place bytes ≡ true
    → IsPrefix extended_rules place bytes → IsPrefix element_rules (inner_place place) bytes
prefix_down place bytes h front =
    let below : Below place (extended_spelling front.unit) =
    down place front.unit bytes front.rest h front.stands front.spelled in
    record {
      unit = below.element;
      rest = front.rest;
      stands = below.stands;
      spelled = below.spelled ∙ front.spelled;
    }

-- after an escape the profile's machine goes on
pub escape_goes_on : (place : Place) (place' : Place) (begun' : List ℕ) (push : Push Element)
    → IsStep element_rules (reading place []) ESCAPE (reading place' begun') push
    → (place' ≡ place) × (begun' ≡ ESCAPE ∷ [])
escape_goes_on place place' begun' answer.More step = (step.0, step.1)
escape_goes_on place place' begun' (answer.Unit e) step = not_alone e step.stands.is_unit step.spelled
  where
    not_alone : {A : Type 0} (e : Element) → IsElement e → spelling e ≡ ESCAPE ∷ [] → A
    not_alone ClearUnit h e = absurd (cc)
    not_alone ClearFormat h e = absurd (cc)
    not_alone (Write cc1 cc2) h e = absurd (cc)
    not_alone (ReadInput cc1 cc2) h e = absurd (cc)
    not_alone (ReadMdt cc1 cc2) h e = absurd (cc)
    not_alone (ReadMdtAlternate cc1 cc2) h e = absurd (cc)
    not_alone (Put b) h e = no_code b 0x04 h (ap first e) refl
    not_alone u h e = absurd (omega (arith, ap first e))
escape_goes_on place place' begun' (answer.Bad reason) step =
    absurd (step.0 (record {
      unit = ClearUnit;
      rest = 0x40 ∷ [];
      stands = record { is_unit = tt; may_follow = refl };
      spelled = refl;
    }))
