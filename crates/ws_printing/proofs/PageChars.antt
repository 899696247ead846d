-- What bytes show on a code page, and on page 037.

use Rattle.ws_code.proofs.OneToOne.{char_bounds}
use Rattle.ws_code.specs.CodePage.{changes_of, char_on, national_char}
use Rattle.ws_code.specs.Ebcdic.{char_of}
use Rattle.ws_printing.proofs.Common.{DUP, ◌==◌, ◌||◌, if◌then◌else◌, unwrap_or, is_some, ◌≡◌, ℕ, ◌≤◌, Bool, true}
use Rattle.ws_printing.proofs.Common.{false, Option, Some, None, slice_index, refl, ap, ◌<◌, arith, nat_tests, ne_eqb}
use Rattle.ws_printing.proofs.Common.{CodePage, one_to_one, is_attribute, is_hidden, attribute_at, shown_under, Shown}
use Rattle.ws_printing.proofs.Common.{on_page, page_037, ShowsAsScreen, IsOnlyFor}

-- page 037 has the characters that it has
char_on_037 : (b : ℕ) → char_on page_037 b ≡ char_of b
unfolding char_on national_char changes_of
char_on_037 b = refl

-- a byte of 40 and more is no attribute
no_attribute : (b : ℕ) → 0x40 ≤ b → is_attribute b ≡ false
no_attribute b low = grind (arith, nat_tests)

same_kept : (hidden : Bool) (c : ℕ) → (if hidden then c else c) ≡ c
same_kept true c = refl
same_kept false c = refl

abbrev seen : ℕ → ℕ → Shown
seen character attribute = record { character = character; attribute = attribute }

seen_hidden : (hidden : Bool) (x attribute : ℕ)
    → seen (if hidden then (if hidden then 0x20 else x) else x) attribute ≡ seen (if hidden then 0x20 else x) attribute
seen_hidden true x attribute = refl
seen_hidden false x attribute = refl

-- under an attribute a byte shows on 037 what the screen says
as_screen : (a b : ℕ) → on_page page_037 b (shown_under a b) ≡ shown_under a b
as_screen a b = rw (char_on_037 b) (go (char_of b) refl)
  where
    go : (own : Option ℕ) → char_of b ≡ own
        → seen (if is_hidden (shown_under a b).attribute then (shown_under a b).character
        else unwrap_or own (shown_under a b).character) (shown_under a b).attribute ≡ shown_under a b
    go None p = ap (λ c. seen c (shown_under a b).attribute)
        (same_kept (is_hidden (shown_under a b).attribute) (shown_under a b).character)
    go (Some x) p =
        let low : 0x40 ≤ b = (char_bounds b x p).0 in
        rw (
          no_attribute b low,
          ne_eqb b 0 (λ e. absurd (omega (arith, low, e))),
          ne_eqb b DUP (λ e. absurd (omega (arith, low, e))),
          p,
        ) (seen_hidden (is_hidden a) x a)

pub shows_as_screen : ShowsAsScreen
shows_as_screen cells cell = as_screen (attribute_at cells cell) (slice_index cells cell)

-- a byte that has no character on a page has none on 037
none_of_037 : (page : CodePage) (b : ℕ) → char_on page b ≡ None → char_of b ≡ None
none_of_037 page b none = go (char_of b) refl
  where
    go : (own : Option ℕ) → char_of b ≡ own → own ≡ None
    go None p = refl
    go (Some x) p =
        let at : _ = char_bounds b x p in
        let has : _ = (one_to_one page).has b in
        absurd (clash none (has.1 (at.0, at.1)))
      where
        clash : {o : Option ℕ} → o ≡ None → is_some o ≡ true → ⊥
        clash e some = cc

-- a byte whose character on a page is above the full stop and isn't hidden has it there, if it has none that 037 lacks
seen_as : (unseen hidden blank dup : Bool) (own old : Option ℕ) (c : ℕ) → 0x2E < c → (own ≡ None → old ≡ None)
    → (unseen ≡ true → hidden ≡ true)
    → (let here = if hidden then 0x20 else (if blank then 0x20 else (if dup then 0x2A else unwrap_or old 0x2E)) in
    (if unseen then here else unwrap_or own here) ≡ c) → own ≡ Some c
seen_as true true blank dup own old c high none under e = absurd (omega (arith, high, e))
seen_as true false blank dup own old c high none under e = (let no : false ≡ true = under refl in cc)
seen_as false hidden blank dup (Some x) old c high none under e = ap (λ z. Some z) e
seen_as false true blank dup None old c high none under e = absurd (omega (arith, high, e))
seen_as false false true dup None old c high none under e = absurd (omega (arith, high, e))
seen_as false false false true None old c high none under e = absurd (omega (arith, high, e))
seen_as false false false false None None c high none under e = absurd (omega (arith, high, e))
seen_as false false false false None (Some x) c high none under e = (let no : Some x ≡ None = none refl in cc)

-- a byte that shows such a character on the page is the only one that does
pub shown_byte : (page : CodePage) (a v c byte : ℕ) → IsOnlyFor page c byte
    → (on_page page v (shown_under a v)).character ≡ c → v ≡ byte
shown_byte page a v c byte only e = only.2 v (seen_as (is_hidden (if is_attribute v then 0x20 else a)) (is_hidden a)
    ((v == 0) || is_attribute v) (v == DUP) (char_on page v) (char_of v) c only.0 (none_of_037 page v)
    (under (is_attribute v)) e)
  where
    -- an attribute's own cell isn't hidden
    under : (attribute : Bool) → is_hidden (if attribute then 0x20 else a) ≡ true → is_hidden a ≡ true
    under true h = (let no : false ≡ true = h in cc)
    under false h = h
