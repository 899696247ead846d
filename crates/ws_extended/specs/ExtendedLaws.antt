-- The laws of the code of a live host's elements.
use Rattle.std.specs.Prelude.{◌≡◌, ◌≢◌, ◌<◌, ℕ, ◌==◌, List, [], ◌∷◌, ◌++◌, Bool, true, false, ◌||◌, refl, if◌then◌else◌}
use Rattle.std.proofs.Common.{sym, ap, ◌∙◌, subst, arith}
use Rattle.std.proofs.lemmas.Bool.{false≢true}
use Rattle.std.proofs.lemmas.List.{append-nil}
use Rattle.ws_code.specs.Code.{AreBytes, IsChain, IsPrefixFree, IsUnfinished, Stands, place_after}
use Rattle.ws_stream.specs.ElementLaws.{element_bytes, element_nonempty, element_prefix_free, first, no_code, second}
use Rattle.ws_stream.specs.Elements.{IsElement, element_rules, is_command, spelling}
use Rattle.ws_stream.specs.Reasons.{is_one_of}
use Rattle.ws_stream.specs.declared.command_code.TheConstants.{ESCAPE}
use Rattle.ws_stream.specs.declared.element.Element.{Element}
use Rattle.ws_stream.specs.declared.element.Element.TheVariants.{ClearUnit, ClearFormat, Write, ReadInput, ReadMdt}
use Rattle.ws_stream.specs.declared.element.Element.TheVariants.{ReadMdtAlternate, Ic, Put}
use Rattle.ws_stream.specs.declared.place.Place.TheVariants.{Anything}
use Rattle.ws_extended.specs.ExtendedElements.{IsExtended, ask_field, extended_rules, extended_spelling}
use Rattle.ws_extended.specs.ExtendedElements.{extended_follows, is_text}
use Rattle.ws_extended.specs.ExtendedReasons.{other_commands, own_commands}
use Rattle.ws_extended.specs.declared.ask.Ask.{Ask}
use Rattle.ws_extended.specs.declared.ask.Ask.TheVariants.{Query, SaveScreen, ReadScreen, ReadImmediate}
use Rattle.ws_extended.specs.declared.ask.Ask.TheVariants.{ReadImmediateAlternate}
use Rattle.ws_extended.specs.declared.extended_element.ExtendedElement.{ExtendedElement}
use Rattle.ws_extended.specs.declared.extended_element.ExtendedElement.TheVariants.{Profile, Text, RestoreScreen}
use Rattle.ws_extended.specs.declared.extended_element.ExtendedElement.TheVariants.{Roll, WriteError, Asks}
use Rattle.ws_extended.specs.declared.extended_place.ExtendedPlace.{ExtendedPlace}
use Rattle.ws_extended.specs.declared.extended_place.ExtendedPlace.TheVariants.{InProfile, ErrorText, Asked}

-- each element is spelled by at least one byte
pub extended_nonempty : (u : ExtendedElement) → IsExtended u → extended_spelling u ≢ []
extended_nonempty (Profile e) h none = element_nonempty e h none
extended_nonempty (Text e) h none = element_nonempty e h none
extended_nonempty RestoreScreen h none = cc
extended_nonempty (Roll r) h none = cc
extended_nonempty WriteError h none = cc
extended_nonempty (Asks ask) h none = cc

-- its spelling is of bytes
pub extended_bytes : (u : ExtendedElement) → IsExtended u → AreBytes (extended_spelling u)
extended_bytes (Profile e) h = element_bytes e h
extended_bytes (Text e) h = element_bytes e h
extended_bytes RestoreScreen h = (omega arith, (omega arith, tt))
extended_bytes (Roll r) h =
    let top : r.top < 256 = omega (arith, h.order, h.high) in
    let bottom : r.bottom < 256 = omega (arith, h.high) in
    (omega arith, (omega arith, (h.byte, (top, (bottom, tt)))))
extended_bytes WriteError h = (omega arith, (omega arith, tt))
extended_bytes (Asks Query) h =
    (omega arith, (omega arith, (omega arith, (omega arith, (omega arith, (omega arith, (omega arith, tt)))))))
extended_bytes (Asks SaveScreen) h = (omega arith, (omega arith, tt))
extended_bytes (Asks ReadScreen) h = (omega arith, (omega arith, tt))
extended_bytes (Asks ReadImmediate) h = (omega arith, (omega arith, tt))
extended_bytes (Asks ReadImmediateAlternate) h = (omega arith, (omega arith, tt))

-- an element of the profile stands where everything may
pub anywhere : (e : Element) → IsElement e → Stands element_rules Anything e
anywhere e h = record { is_unit = h; may_follow = go (is_command e) }
  where
    go : (b : Bool) → (b || true) ≡ true
    go true = refl
    go false = refl

-- a command of the profile has one of its codes
pub own_code : (e : Element) (rest : List ℕ) (code : ℕ) (more : List ℕ) → IsElement e
    → spelling e ++ rest ≡ ESCAPE ∷ code ∷ more → is_one_of code own_commands ≡ true
own_code ClearUnit rest code more h e = ap (λ n. is_one_of n own_commands) (sym (ap second e))
own_code ClearFormat rest code more h e = ap (λ n. is_one_of n own_commands) (sym (ap second e))
own_code (Write a b) rest code more h e = ap (λ n. is_one_of n own_commands) (sym (ap second e))
own_code (ReadInput a b) rest code more h e = ap (λ n. is_one_of n own_commands) (sym (ap second e))
own_code (ReadMdt a b) rest code more h e = ap (λ n. is_one_of n own_commands) (sym (ap second e))
own_code (ReadMdtAlternate a b) rest code more h e = ap (λ n. is_one_of n own_commands) (sym (ap second e))
own_code (Put b) rest code more h e = no_code b 0x04 h (ap first e) refl
own_code u rest code more h e = absurd (omega (arith, ap first e))

-- a Roll by its bytes
abbrev roll_back : List ℕ → ExtendedElement
roll_back (escape ∷ code ∷ a ∷ b ∷ c ∷ rest) = Roll (record { control = a; top = b; bottom = c })
roll_back bytes = RestoreScreen

-- a command beside the profile without the bytes after its code, which a Roll alone has of its own
abbrev bare : ExtendedElement → ExtendedElement
bare (Roll r) = Roll (record { control = 0; top = 0; bottom = 0 })
bare u = u

-- the commands beside the profile by their codes
abbrev pub by_code : ℕ → ExtendedElement
by_code code =
    if code == 0x12 then RestoreScreen
    else if code == 0x23 then Roll (record { control = 0; top = 0; bottom = 0 })
    else if code == 0x21 then WriteError
    else if code == 0xF3 then Asks Query
    else if code == 0x02 then Asks SaveScreen
    else if code == 0x62 then Asks ReadScreen
    else if code == 0x72 then Asks ReadImmediate
    else Asks ReadImmediateAlternate

-- a command beside the profile
abbrev pub IsOther : ExtendedElement → Type 0
IsOther (Profile e) = ⊥
IsOther (Text e) = ⊥
IsOther _ = Unit {0}

other_code : (u : ExtendedElement) → IsOther u → by_code (second (extended_spelling u)) ≡ bare u
other_code (Profile e) o = absurd o
other_code (Text e) o = absurd o
other_code RestoreScreen o = refl
other_code (Roll r) o = refl
other_code WriteError o = refl
other_code (Asks Query) o = refl
other_code (Asks SaveScreen) o = refl
other_code (Asks ReadScreen) o = refl
other_code (Asks ReadImmediate) o = refl
other_code (Asks ReadImmediateAlternate) o = refl

-- its spelling
pub other_front : (u : ExtendedElement) → IsOther u → (code : ℕ) × (more : List ℕ)
    × (extended_spelling u ≡ ESCAPE ∷ code ∷ more) × (is_one_of code own_commands ≡ false)
    × (is_one_of code other_commands ≡ true)
other_front (Profile e) o = absurd o
other_front (Text e) o = absurd o
other_front RestoreScreen o = (0x12, [], refl, refl, refl)
other_front (Roll r) o = (0x23, r.control ∷ r.top ∷ r.bottom ∷ [], refl, refl, refl)
other_front WriteError o = (0x21, [], refl, refl, refl)
other_front (Asks Query) o = (0xF3, ask_field Query, refl, refl, refl)
other_front (Asks SaveScreen) o = (0x02, [], refl, refl, refl)
other_front (Asks ReadScreen) o = (0x62, [], refl, refl, refl)
other_front (Asks ReadImmediate) o = (0x72, [], refl, refl, refl)
other_front (Asks ReadImmediateAlternate) o = (0x83, [], refl, refl, refl)

-- an element and such a command don't begin one list
pub apart : {A : Type 0} (e : Element) (u : ExtendedElement) (x y : List ℕ) → IsElement e → IsOther u
    → spelling e ++ x ≡ extended_spelling u ++ y → A
apart e u x y h o same =
    let front : _ = other_front u o in
    let all : spelling e ++ x ≡ ESCAPE ∷ front.0 ∷ (front.1 ++ y) = same ∙ ap (λ (l : List ℕ). l ++ y) front.2 in
    absurd (false≢true (sym front.3 ∙ own_code e x front.0 (front.1 ++ y) h all))

-- two such commands
pub other_same : (u v : ExtendedElement) (rest : List ℕ) → IsOther u → IsOther v
    → extended_spelling v ≡ extended_spelling u ++ rest → u ≡ v
other_same u v rest o p e =
    let front : _ = other_front u o in
    let seconds : second (extended_spelling u) ≡ second (extended_spelling v) =
    ap second front.2 ∙ sym (ap (λ (l : List ℕ). second (l ++ rest)) front.2) ∙ sym (ap second e) in
    go u v e (sym (other_code u o) ∙ ap by_code seconds ∙ other_code v p)
  where
    go : (u v : ExtendedElement) → extended_spelling v ≡ extended_spelling u ++ rest → bare u ≡ bare v → u ≡ v
    go (Roll r) (Roll q) e same = ap roll_back (sym e)
    go (Roll r) v e same = absurd (cc)
    go u (Roll q) e same = absurd (cc)
    go u v e same = same

-- text is no command
pub text_or_command : {A : Type 0} (e : Element) → is_text e ≡ true → is_command e ≡ true → A
text_or_command (Ic place) t c = absurd (false≢true c)
text_or_command (Put byte) t c = absurd (false≢true c)
text_or_command e t c = absurd (false≢true t)

-- text stands in an error text alone, and there the profile's elements are commands
mixed : {A : Type 0} (place : ExtendedPlace) (e : Element) → extended_follows place (Profile e) ≡ true
    → extended_follows place (Text e) ≡ true → A
mixed (InProfile place) e p t = absurd (false≢true t)
mixed ErrorText e p t = text_or_command e t p
mixed (Asked ask) e p t = absurd (false≢true t)

-- two elements of the profile
pub same_element : (e f : Element) (rest : List ℕ) → IsElement e → IsElement f → spelling f ≡ spelling e ++ rest
    → e ≡ f
same_element e f rest h k = element_prefix_free Anything e f rest (anywhere e h) (anywhere f k)

-- no element's spelling begins another's at the same place
pub extended_prefix_free : IsPrefixFree extended_rules
extended_prefix_free place (Profile e) (Profile f) rest su sv same =
    ap (λ (x : Element). Profile x) (same_element e f rest su.is_unit sv.is_unit same)
extended_prefix_free place (Text e) (Text f) rest su sv same =
    ap (λ (x : Element). Text x) (same_element e f rest su.is_unit sv.is_unit same)
extended_prefix_free place (Profile e) (Text f) rest su sv same =
    mixed place f (subst (λ (x : Element). extended_follows place (Profile x) ≡ true)
    (same_element e f rest su.is_unit sv.is_unit same) su.may_follow) sv.may_follow
extended_prefix_free place (Text e) (Profile f) rest su sv same =
    mixed place f sv.may_follow (subst (λ (x : Element). extended_follows place (Text x) ≡ true)
    (same_element e f rest su.is_unit sv.is_unit same) su.may_follow)
extended_prefix_free place (Profile e) v rest su sv same =
    apart e v rest [] su.is_unit tt (sym (append-nil (extended_spelling v) ∙ same))
extended_prefix_free place (Text e) v rest su sv same =
    apart e v rest [] su.is_unit tt (sym (append-nil (extended_spelling v) ∙ same))
extended_prefix_free place u (Profile f) rest su sv same =
    apart f u [] rest sv.is_unit tt (append-nil (spelling f) ∙ same)
extended_prefix_free place u (Text f) rest su sv same =
    apart f u [] rest sv.is_unit tt (append-nil (spelling f) ∙ same)
extended_prefix_free place u v rest su sv same = other_same u v rest tt tt same

-- what asks can come at each place
pub extended_begins : (place : ExtendedPlace) → IsUnfinished extended_rules place []
extended_begins place = record {
  unit = Asks SaveScreen;
  next = 0x04;
  rest = 0x02 ∷ [];
  stands = record { is_unit = tt; may_follow = asks_stand place SaveScreen };
  spelled = refl;
}
  where
    asks_stand : (place : ExtendedPlace) (ask : Ask) → extended_follows place (Asks ask) ≡ true
    asks_stand (InProfile place) ask = refl
    asks_stand ErrorText ask = refl
    asks_stand (Asked before) ask = refl

-- from each place a body can come to its end
pub extended_can_end : (place : ExtendedPlace)
    → (units : List ExtendedElement) × IsChain extended_rules place units
    × (extended_rules.may_end (place_after extended_rules place units) ≡ true)
extended_can_end place = ([], tt, refl)
