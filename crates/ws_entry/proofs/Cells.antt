-- The cells of fields that keys enter and leave.
use Rattle.std.proofs.Common.{◌≡◌, ℕ, zero, suc, ◌+◌, ◌-◌, ◌≤◌, List, ◌∷◌, Bool, true, false, Option, Some}
use Rattle.std.proofs.Common.{None}
use Rattle.std.proofs.Common.{length, take, drop, ◌++◌, slice_index, if◌then◌else◌, ◌==◌, refl, sym, ◌∙◌, arith}
use Rattle.std.proofs.Common.{length-drop}
use Rattle.std.proofs.lemmas.Bool.{and_parts, leb-true}
use Rattle.std.proofs.lemmas.List.{length-take-le}
use Rattle.std.specs.Prelude.{IfSome, nat_le}
use Rattle.ws_code.specs.DataByte.{is_order}
use Rattle.ws_screen.specs.Keyed.{cells_of, open_field}
use Rattle.ws_screen.specs.ScreenParts.{IsClean, IsLegal, ScreenParts}
use Rattle.ws_screen.specs.declared.field.Field.{Field}
use Rattle.ws_screen.proofs.EditLemmas.{clean-append, clean-drop, clean-take, open_within}
use Rattle.ws_screen.proofs.Legal.{attribute-data}
use Rattle.ws_keys.specs.Keys.{between}
use Rattle.ws_entry.specs.EntryRules.{minus_before, negative_digit}

-- the open field lies on the screen
pub opened_within : (s : ScreenParts) (o : Option Field) → IsLegal s → o ≡ open_field s
    → IfSome o (λ f. (1 ≤ f.length) × (f.start + f.length ≤ 1920))
opened_within s None legal e = tt
opened_within s (Some f) legal e = open_within s f legal (sym e)

-- as many cells as a field has
pub cells_size : (s : ScreenParts) (f : Field) → length s.cells ≡ 1920 → f.start + f.length ≤ 1920
    → length (cells_of s f) ≡ f.length
cells_size s f size within = length-take-le (f.start + f.length - f.start) (drop f.start s.cells)
    (omega (arith, length-drop f.start s.cells, size, within)) ∙ omega arith

clean-cons : (b : ℕ) (l : List ℕ) → is_order b ≡ false → IsClean l → IsClean (b ∷ l)
clean-cons b l h p zero = h
clean-cons b l h p (suc c) = p c

minus-data : (b : ℕ) → is_order b ≡ false → is_order (negative_digit b) ≡ false
minus-data b h = go (between 0xF0 0xF9 b) refl
  where
    go : (t : Bool) → between 0xF0 0xF9 b ≡ t → is_order (if t then b - 0x20 else b) ≡ false
    go true e =
        attribute-data (b - 0x20) (omega (arith, leb-true 0xF0 b (and_parts (nat_le 0xF0 b) (nat_le b 0xF9) e).0))
    go false e = h

-- a minus brings no order code
pub clean_minus : (x : List ℕ) (n : ℕ) → IsClean x → IsClean (minus_before x n)
clean_minus x n p = go (n == 0)
  where
    go : (t : Bool)
        → IsClean (if t then x else take (n - 1) x ++ negative_digit (slice_index x (n - 1)) ∷ drop (n - 1 + 1) x)
    go true = p
    go false = clean-append (take (n - 1) x) (negative_digit (slice_index x (n - 1)) ∷ drop (n - 1 + 1) x)
        (clean-take (n - 1) x p)
        (clean-cons (negative_digit (slice_index x (n - 1))) (drop (n - 1 + 1) x)
        (minus-data (slice_index x (n - 1)) (p (n - 1))) (clean-drop (n - 1 + 1) x p))
