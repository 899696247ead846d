-- Whether a screen shows a text on a code page. The text is in UTF-8.

use Rattle.std.specs.Prelude.{◌≡◌, ℕ, ◌-◌, ◌%◌, ◌<◌, ◌≤◌, List, ◌++◌, Some, map}
use Rattle.std.specs.List.{Contains}
use Rattle.std.specs.Str.{encode_utf8_all}
use Rattle.ws_code.specs.CodePage.{char_on}
use Rattle.ws_code.specs.declared.address.TheConstants.{COLUMNS, ROWS}
use Rattle.ws_code.specs.declared.code_page.CodePage.{CodePage}
use Rattle.ws_screen.specs.declared.shown.Shown.{Shown}
use Rattle.ws_printing.specs.ShownOnPage.{cells_on_page, row_on_page}

-- the text of what cells show
abbrev pub text_of_shown : List Shown → List ℕ
text_of_shown shown = encode_utf8_all (map (λ s. s.character) shown)

-- some row shows the text
pub record ShowsText (page : CodePage) (cells text : List ℕ) : Type 0 where
  pub row : ℕ
  pub low : 1 ≤ row
  pub high : row ≤ ROWS
  pub front : List ℕ
  pub back : List ℕ
  pub is : text_of_shown (row_on_page page cells row) ≡ front ++ text ++ back

-- the text begins at the cell, and ends in its row
abbrev pub BeginsAt : CodePage → List ℕ → ℕ → List ℕ → Type 0
BeginsAt page cells cell text =
    (back : List ℕ) × (text_of_shown (cells_on_page page cells cell (COLUMNS - cell % COLUMNS)) ≡ text ++ back)

-- on a page only this byte shows the character, which is neither a blank nor what stands for others, `*` and `.`
abbrev pub IsOnlyFor : CodePage → ℕ → ℕ → Type 0
IsOnlyFor page character byte = (0x2E < character) × (character < 0x80)
    × ((other : ℕ) → char_on page other ≡ Some character → other ≡ byte)

-- a row that shows the text has this byte
abbrev pub IsNeededBy : CodePage → List ℕ → ℕ → Type 0
IsNeededBy page text byte = (character : ℕ) × Contains text character × IsOnlyFor page character byte
