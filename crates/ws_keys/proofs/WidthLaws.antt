-- A field of a screen that events give leaves a cell for its attribute, so a signed numeric one has at most
-- 1,918 digits.
use Rattle.std.specs.List.{filter_map, cons_option, range_with_len, Contains}
use Rattle.std.specs.Option.{option_map_or}
use Rattle.std.specs.Prelude.{is_some}
use Rattle.std.proofs.Common.{◌≡◌, ℕ, ◌+◌, ◌-◌, ◌≤◌, List, [], ◌∷◌, ◌++◌, Bool, true, false, Option, Some, None, All}
use Rattle.std.proofs.Common.{length, find, drop, replicate, if◌then◌else◌, refl, sym, ap, ◌∙◌, subst, arith, ◌==◌}
use Rattle.std.proofs.Common.{length-append, length-take}
use Rattle.std.proofs.lemmas.Bool.{false≢true}
use Rattle.std.proofs.lemmas.List.{length-map}
use Rattle.std.proofs.lemmas.List.Elements.{All-nil, All-cons, All-contains}
use borrow.Author.Tests.{eqb-true, eqb-false, ne_eqb}
use Rattle.ws_stream.specs.FieldOrder.{FieldOrder}
use Rattle.ws_stream.specs.declared.element.Element.TheVariants.{ClearUnit, ClearFormat, Write, ReadInput, ReadMdt}
use Rattle.ws_stream.specs.declared.element.Element.TheVariants.{ReadMdtAlternate, Soh, Ra, Ea, Sba, Ic, Mc, Sf, Put}
use Rattle.ws_screen.specs.Events.{Event, did, ended, lit, cancelled, keyed, History}
use Rattle.ws_screen.specs.Formats.{empties_table, field_by, cons_some, input_sfs, starts_at, field_from, fields}
use Rattle.ws_screen.specs.Given.{Gives}
use Rattle.ws_screen.specs.ScreenParts.{ScreenParts, IsLegal}
use Rattle.ws_screen.specs.Steps.{EndsOnScreen}
use Rattle.ws_screen.specs.Writes.{address}
use Rattle.ws_screen.specs.declared.field.Field.{Field}
use Rattle.ws_screen.proofs.FormatLemmas.{starts_there}
use Rattle.ws_screen.proofs.Legal.{apart-ends}
use Rattle.ws_keys.specs.Contents.{sent_cells, sent_length}
use Rattle.ws_keys.specs.SignedDigits.{IsDecoded, ReadsSigned, zoned_decimal}
use Rattle.ws_keys.specs.declared.signed.SignedDigits.{SignedDigits}
use Rattle.ws_keys.proofs.SignedLaws.{reads_digits}

-- WHERE FIELDS START

order_starts : (a : ℕ) (f : FieldOrder) (format : Option ℕ) (x : Field)
    → option_map_or (λ w. let y : Field = record { start = a + 1; length = f.length; format = w } in Some y) format None
    ≡ Some x
    → x.start ≡ a + 1
order_starts a f None x e = absurd (cc)
order_starts a f (Some w) x e = let P : Option Field → ℕ = λ o. option_map_or (λ y. y.start) o 0 in sym (ap P e)

behind : (a : ℕ) (e : Event) (x : Field) → field_by a e ≡ Some x → x.start ≡ a + 1
behind a (did (Sf f)) x e = order_starts a f f.format x e
behind a (did ClearUnit) x e = absurd (cc)
behind a (did ClearFormat) x e = absurd (cc)
behind a (did (Write cc1 cc2)) x e = absurd (cc)
behind a (did (ReadInput cc1 cc2)) x e = absurd (cc)
behind a (did (ReadMdt cc1 cc2)) x e = absurd (cc)
behind a (did (ReadMdtAlternate cc1 cc2)) x e = absurd (cc)
behind a (did (Soh bytes)) x e = absurd (cc)
behind a (did (Ra place byte)) x e = absurd (cc)
behind a (did (Ea place kinds)) x e = absurd (cc)
behind a (did (Sba place)) x e = absurd (cc)
behind a (did (Ic place)) x e = absurd (cc)
behind a (did (Mc place)) x e = absurd (cc)
behind a (did (Put byte)) x e = absurd (cc)
behind a ended x e = absurd (cc)
behind a (lit on) x e = absurd (cc)
behind a cancelled x e = absurd (cc)
behind a (keyed edit) x e = absurd (cc)

none_at_first : (h : History) → find (starts_at 0) (input_sfs h) ≡ None
none_at_first [] = refl
none_at_first (e ∷ h) = go (empties_table e) (none_at_first h)
  where
    more : (o : Option Field) → field_by (address h) e ≡ o → find (starts_at 0) (input_sfs h) ≡ None
        → find (starts_at 0) (cons_some o (input_sfs h)) ≡ None
    more None q rest = rest
    more (Some x) q rest =
        let start : x.start ≡ address h + 1 = behind (address h) e x q in
        let other : (x.start == 0) ≡ false = ne_eqb x.start 0 (λ z. absurd (omega (arith, start, z))) in
        ap (λ t. if t then Some x else find (starts_at 0) (input_sfs h)) other ∙ rest

    go : (t : Bool) → find (starts_at 0) (input_sfs h) ≡ None
        → find (starts_at 0) (if t then [] else cons_some (field_by (address h) e) (input_sfs h)) ≡ None
    go true rest = refl
    go false rest = more (field_by (address h) e) refl rest

found : (make : Field → Option Field) (o : Option Field) (f : Field) → option_map_or make o None ≡ Some f
    → is_some o ≡ true
found make None f e = absurd (cc)
found make (Some x) f e = refl

starts_late : (h : History) (a : ℕ) (f : Field) → field_from h a ≡ Some f → 1 ≤ f.start
starts_late h a f e = go (a == 0) refl (found _ (find (starts_at a) (input_sfs h)) f e)
  where
    go : (t : Bool) → (a == 0) ≡ t → is_some (find (starts_at a) (input_sfs h)) ≡ true → 1 ≤ f.start
    go true q some =
        let first : is_some (find (starts_at 0) (input_sfs h)) ≡ true =
        subst (λ k. is_some (find (starts_at k) (input_sfs h)) ≡ true) (eqb-true a 0 q) some in
        absurd (false≢true (sym (ap is_some (none_at_first h)) ∙ first))
    go false q some = let other : a ≡ 0 → ⊥ = eqb-false a 0 q in omega (arith, starts_there h a f e, other)

all_given : (g : ℕ → Option Field) (P : Field → Type 0) → ((a : ℕ) (f : Field) → g a ≡ Some f → P f) → (xs : List ℕ)
    → All P (filter_map g xs)
all_given g P good [] = All-nil P
all_given g P good (x ∷ xs) = go (g x) (good x) (all_given g P good xs)
  where
    go : (o : Option Field) → ((f : Field) → o ≡ Some f → P f) → All P (filter_map g xs)
        → All P (cons_option o (filter_map g xs))
    go None here rest = rest
    go (Some f) here rest = All-cons P f (filter_map g xs) (here f refl) rest

all_late : (h : History) → All (λ f. 1 ≤ f.start) (fields h)
unfolding fields
all_late h = all_given (field_from h) (λ f. 1 ≤ f.start) (starts_late h) (range_with_len 0 1920)

-- HOW MANY DIGITS THERE ARE

narrow : (h : History) (s : ScreenParts) (f : Field) → Gives h s → IsLegal s → Contains s.fields f → f.length ≤ 1919
narrow h s f gives legal member =
    let late : All (λ g. 1 ≤ g.start) s.fields =
    subst (λ w. All (λ g. 1 ≤ g.start) w.fields) (sym gives.format) (all_late h) in
    let low : 1 ≤ f.start = All-contains (λ g. 1 ≤ g.start) s.fields f late member in
    let high : f.start + f.length ≤ 1920 = All-contains EndsOnScreen s.fields f (apart-ends 0 s.fields legal.apart) member in
    omega (arith, low, high)

pub reads_signed : (bytes : List ℕ) (result : Option SignedDigits) → IsDecoded bytes result → ReadsSigned bytes result
reads_signed bytes result decoded = λ h s gives legal f member signed front digits k cells blank ok e.
    let zoned : List ℕ = zoned_decimal digits in
    let sent : sent_length f ≡ f.length - 1 = ap (λ t. if t then f.length - 1 else f.length) signed in
    let width : length (sent_cells s f) ≤ sent_length f =
    omega (arith, length-take (f.start + sent_length f - f.start) (drop f.start s.cells)) in
    let parts : length front + length digits ≤ length (front ++ zoned ++ replicate k 0) =
    omega (
      arith,
      length-append (front ++ zoned) (replicate k 0),
      length-append front zoned,
      length-map digits (λ d. 0xF0 + d),
    ) in
    let joined : length front + length digits ≤ length (sent_cells s f) = omega (arith, parts, ap length cells) in
    let slim : f.length ≤ 1919 = narrow h s f gives legal member in
    let short : length front + length digits ≤ 1918 = omega (arith, slim, sent, width, joined) in
    reads_digits bytes result decoded s f front digits k cells blank ok short e
