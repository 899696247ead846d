-- Cells in colour, one after another.

use Rattle.std.specs.Prelude.{Option, Some, encode_utf8}
use Rattle.std.proofs.Common.{◌≡◌, ℕ, List, [], ◌∷◌, ◌++◌, refl, sym, ap, ◌∙◌, append_assoc}
use Rattle.std.proofs.lemmas.List.{append-nil}
use Rattle.ws_screen.specs.declared.shown.Shown.{Shown}
use Rattle.ws_printing.specs.ColoredRows.{sequence_behind, colored_behind}

-- the attribute of the last cell, and of no cell what was before
abbrev pub last_attribute : Option ℕ → List Shown → Option ℕ
last_attribute before [] = before
last_attribute before (cell ∷ cells) = last_attribute (Some cell.attribute) cells

pub last_attribute_more : (before : Option ℕ) (cells : List Shown) (cell : Shown) → last_attribute before
    (cells ++ cell ∷ []) ≡ Some cell.attribute
last_attribute_more before [] cell = refl
last_attribute_more before (x ∷ cells) cell = last_attribute_more (Some x.attribute) cells cell

pub colored_more : (before : Option ℕ) (cells : List Shown) (cell : Shown) → colored_behind before cells
    ++ (sequence_behind (last_attribute before cells) cell.attribute ++ encode_utf8 cell.character)
    ≡ colored_behind before (cells ++ cell ∷ [])
colored_more before [] cell = sym (append-nil (sequence_behind before cell.attribute ++ encode_utf8 cell.character))
colored_more before (x ∷ cells) cell =
    let first : List ℕ = sequence_behind before x.attribute ++ encode_utf8 x.character in
    append_assoc first (colored_behind (Some x.attribute) cells)
    (sequence_behind (last_attribute (Some x.attribute) cells) cell.attribute ++ encode_utf8 cell.character)
    ∙ ap (λ z. first ++ z) (colored_more (Some x.attribute) cells cell)
