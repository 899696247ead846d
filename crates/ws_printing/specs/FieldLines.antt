-- The lines of a screen's fields, as a text in bytes. Numbers are in decimal, a format word is in upper case hex.

use Rattle.std.specs.Prelude.{◌≡◌, ℕ, ◌-◌, List, ◌++◌, codes, min}
use Rattle.std.specs.List.{flat_map}
use Rattle.std.specs.Fmt.{decimal}
use Rattle.hex.specs.Hex.{encode_upper}
use Rattle.ws_code.specs.declared.address.TheConstants.{CELLS}
use Rattle.ws_code.specs.declared.code_page.CodePage.{CodePage}
use Rattle.ws_record.specs.Grammar.{two_bytes}
use Rattle.ws_screen.specs.ScreenParts.{ScreenParts}
use Rattle.ws_screen.specs.declared.field.Field.{Field}
use Rattle.ws_screen.specs.declared.shown.Shown.{Shown}
use Rattle.ws_text.specs.ItemLines.{cell_text}
use Rattle.ws_printing.specs.Characters.{after_blank, without_last_blanks}
use Rattle.ws_printing.specs.ShownOnPage.{cells_on_page}

-- what cells show on a page: from one on so many, or up to the last of the screen
abbrev pub shown_from : CodePage → List ℕ → ℕ → ℕ → List Shown
shown_from page cells place count = cells_on_page page cells place (min count (CELLS - place))

-- a field's line: its first cell, its length, its format word, and what its cells show on a page, without the blanks at
-- the end
abbrev pub field_line : CodePage → List ℕ → Field → List ℕ
field_line page cells field = codes "field " ++ cell_text field.start ++ codes " " ++ decimal field.length ++ codes " "
    ++ encode_upper (two_bytes field.format) ++ after_blank (λ s. s.character)
    (without_last_blanks (λ s. s.character) (shown_from page cells field.start field.length)) ++ codes "\n"

-- these are the lines of all fields of a screen, on a page
abbrev pub AreFieldLines : CodePage → ScreenParts → List ℕ → Type 0
AreFieldLines page screen text = text ≡ flat_map (field_line page screen.cells) screen.fields
