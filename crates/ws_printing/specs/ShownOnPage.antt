-- What the cells of a display show on a code page.

use Rattle.std.specs.Prelude.{◌≡◌, ℕ, ◌-◌, ◌*◌, List, if◌then◌else◌, false, map, slice_index, unwrap_or}
use Rattle.std.specs.List.{range_with_len}
use Rattle.ws_code.specs.CodePage.{char_on}
use Rattle.ws_code.specs.declared.address.TheConstants.{COLUMNS}
use Rattle.ws_code.specs.declared.code_page.CodePage.{CodePage}
use Rattle.ws_code.specs.declared.country.Country.TheVariants.{UnitedStates}
use Rattle.ws_screen.specs.Attributes.{is_hidden}
use Rattle.ws_screen.specs.Lines.{shown_at}
use Rattle.ws_screen.specs.declared.shown.Shown.{Shown}

-- what a byte shows on a page that shows so on 037: where nothing hides it the page's character, if it has one
abbrev pub on_page : CodePage → ℕ → Shown → Shown
on_page page byte shown = record {
  character = if is_hidden shown.attribute then shown.character else unwrap_or (char_on page byte) shown.character;
  attribute = shown.attribute;
}

-- what a cell of the screen shows on a page
abbrev pub shown_on : CodePage → List ℕ → ℕ → Shown
shown_on page cells c = on_page page (slice_index cells c) (shown_at cells c)

-- what cells show on a page, so many from a place on
abbrev pub cells_on_page : CodePage → List ℕ → ℕ → ℕ → List Shown
cells_on_page page cells place count = map (shown_on page cells) (range_with_len place count)

-- what the 80 cells of a row show on a page, counted from 1
unfoldable pub row_on_page : CodePage → List ℕ → ℕ → List Shown
row_on_page page cells row = cells_on_page page cells ((row - 1) * COLUMNS) COLUMNS

-- page 037, which the profile is printed on
abbrev pub page_037 : CodePage
page_037 = record { country = UnitedStates; has_euro = false }

-- on page 037 each cell shows what the screen says that it shows
abbrev pub ShowsAsScreen : Type 0
ShowsAsScreen = (cells : List ℕ) (cell : ℕ) → shown_on page_037 cells cell ≡ shown_at cells cell
