-- The words of a line that presses keys by the screen, and of one that prints what it asks for.

use Rattle.std.specs.Prelude.{codes, Option, None, Some, MatchOption}
use Rattle.std.proofs.Common.{◌≡◌, ℕ, List, ◌++◌, true, sym, ap, ◌∙◌, subst}
use Rattle.ws_text.specs.Words.{IsCell}
use Rattle.ws_script.specs.declared.lines.script_stroke.FieldFilling.{FieldFilling}
use Rattle.ws_script.specs.lines.ConnectLines.{IsCellText, IsFieldNumber, IsFilling, IsPlaced}
use Rattle.ws_printing.specs.script.KeyWords.{KeyWords}
use Rattle.ws_printing.specs.script.ScriptFaults.{has_no_blank}
use Rattle.ws_printing.proofs.ScriptWords.{blank_inside, digits_have_no_blank, split_unique}

-- a cell is that of its row and its column
pub cell_text : (words row column : List ℕ) → words ≡ (row ++ codes " ") ++ column → has_no_blank row ≡ true
    → (found : Option ℕ) → MatchOption found ((cell : ℕ) → IsCell row column cell → ⊥) (IsCell row column)
    → MatchOption found ((cell : ℕ) → IsCellText words cell → ⊥) (IsCellText words)
cell_text words row column e free None none = λ cell m.
    let u = split_unique row m.0 column m.1 free (digits_have_no_blank m.0 m.3.2.0.0.1) (sym e ∙ m.2) in
    let first : IsCell row m.1 cell = subst (λ (z : List ℕ). IsCell z m.1 cell) (sym u.0) m.3 in
    none cell (subst (λ (z : List ℕ). IsCell row z cell) (sym u.1) first)
cell_text words row column e free (Some cell) is = (row, column, e, is)

-- words with something after a cell
module _ (words : List ℕ) (cell : ℕ) (rest : List ℕ) (m : IsPlaced words cell rest) where
  module _ (row behind : List ℕ) (e : words ≡ (row ++ codes " ") ++ behind) (free : has_no_blank row ≡ true) where
    same_row : (row ≡ m.0) × (behind ≡ m.1)
    same_row = split_unique row m.0 behind m.1 free (digits_have_no_blank m.0 m.5.2.0.0.1) (sym e ∙ m.3)

    pub no_column_word : has_no_blank behind ≡ true → ⊥
    no_column_word clear = blank_inside m.2 rest (ap has_no_blank (sym m.4) ∙ ap has_no_blank (sym same_row.1) ∙ clear)

    pub placed_words : (column more : List ℕ) → behind ≡ (column ++ codes " ") ++ more → has_no_blank column ≡ true
        → IsCell row column cell × (more ≡ rest)
    placed_words column more f clear =
        let u = split_unique column m.2 more rest clear (digits_have_no_blank m.2 m.5.3.0.0.1)
        (sym f ∙ same_row.1 ∙ m.4) in
        let first : IsCell row m.2 cell = subst (λ (z : List ℕ). IsCell z m.2 cell) (sym same_row.0) m.5 in
        (subst (λ (z : List ℕ). IsCell row z cell) (sym u.0) first, u.1)

-- words have one rest after a cell
pub one_rest : (words : List ℕ) (a b : ℕ) (r q : List ℕ) → IsPlaced words a r → IsPlaced words b q → r ≡ q
one_rest words a b r q m n = (placed_words words b q n m.0 m.1 m.3 (digits_have_no_blank m.0 m.5.2.0.0.1) m.2 r m.4
    (digits_have_no_blank m.2 m.5.3.0.0.1)).1

-- the number of a field is the first word
pub field_number : {Q : Type 0} (w : KeyWords Q) (words word text : List ℕ) → words ≡ (word ++ codes " ") ++ text
    → has_no_blank word ≡ true → (f : FieldFilling Q) → IsFilling w words f → IsFieldNumber word f.number
field_number w words word text e free f m =
    let u = split_unique word m.0 text m.1 free (digits_have_no_blank m.0 m.3.0.0.1) (sym e ∙ m.2) in
    subst (λ (z : List ℕ). IsFieldNumber z f.number) (sym u.0) m.3
