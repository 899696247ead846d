-- What cells show on a code page

use Rattle.std.specs.Prelude.{ℕ, ◌-◌, ◌*◌, List, Option, Some, None, map, slice_index, unwrap_or, if◌then◌else◌}
use Rattle.std.specs.List.{range_with_len}
use Rattle.ws_code.specs.CodePage.{char_on}
use Rattle.ws_code.specs.declared.code_page.CodePage.{CodePage}
use Rattle.ws_screen.specs.Attributes.{is_hidden}
use Rattle.ws_screen.specs.Lines.{shown_at}
use Rattle.ws_screen.specs.declared.shown.Shown.{Shown}
use Rattle.ws_c.specs.declared.station_cells.CellTold.{CellTold}

-- the character of a page that a byte shows, by what the screen shows of it: where nothing hides it the page's, if it has
-- one
abbrev pub char_seen : CodePage → Shown → ℕ → ℕ
char_seen page shown byte =
    if is_hidden shown.attribute then shown.character else unwrap_or (char_on page byte) shown.character

-- what is told of a cell on a page
abbrev pub cell_on : CodePage → CellTold → CellTold
cell_on page cell = record cell {
  character = char_seen page (record { character = cell.character; attribute = cell.attribute }) cell.byte;
}

-- what is told of cells, on a page if there is one, else as the screen shows them
abbrev pub cells_on : Option CodePage → List CellTold → List CellTold
cells_on None cells = cells
cells_on (Some page) cells = map (cell_on page) cells

-- the character of a page that a cell of the screen shows
abbrev pub char_at : CodePage → List ℕ → ℕ → ℕ
char_at page cells c = char_seen page (shown_at cells c) (slice_index cells c)

-- the text that a row shows on a page
unfoldable pub row_chars_on : CodePage → List ℕ → ℕ → List ℕ
row_chars_on page cells row = map (char_at page cells) (range_with_len ((row - 1) * 80) 80)
