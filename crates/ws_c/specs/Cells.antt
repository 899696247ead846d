-- The cells of a screen, as C sees them

use Rattle.std.specs.Prelude.{ℕ, ◌≡◌, ◌+◌, ◌*◌, ◌-◌, ◌≤◌, ◌<◌, List, [], ◌∷◌, length, map, slice_index}
use Rattle.std.specs.List.{range_with_len}
use Rattle.ws_screen.specs.Lines.{shown_at}
use Rattle.ws_screen.specs.ScreenParts.{ScreenParts, AreApart}
use Rattle.ws_screen.specs.declared.field.Field.{Field}
use Rattle.ws_c.specs.declared.station_cells.CellTold.{CellTold}
use Rattle.ws_c.specs.Calls.{field_index, index_from}

-- what is told of a cell: what it shows, its field, what it holds, and the attribute in force
abbrev pub cell_told : ScreenParts → ℕ → CellTold
cell_told s c = record {
  character = (shown_at s.cells c).character;
  field = field_index s.fields c;
  byte = slice_index s.cells c;
  attribute = (shown_at s.cells c).attribute;
}

-- rows of the screen, in order: from the first to the last, each of 1 to 24
abbrev pub AreRowNumbers : ℕ → ℕ → Type 0
AreRowNumbers first last = (1 ≤ first) × (first ≤ last) × (last ≤ 24)

-- how many cells these rows have
abbrev pub cells_in : ℕ → ℕ → ℕ
cells_in first last = (last + 1 - first) * 80

-- what is told of the cells of these rows, in screen order
abbrev pub rows_told : ScreenParts → ℕ → ℕ → List CellTold
rows_told s first last = map (cell_told s) (range_with_len ((first - 1) * 80) (cells_in first last))

-- fields one after another on the screen, from some place on
abbrev pub AreInOrder : List Field → Type 0
AreInOrder fields = (low : ℕ) × AreApart low fields

-- the first of the fields ends after the place
abbrev pub EndsBehind : ℕ → List Field → Type 0
EndsBehind place [] = Unit {0}
EndsBehind place (f ∷ fs) = place < f.start + f.length

-- these stand after a field that ends at the place or before it
pub record IsPassed (place : ℕ) (fields behind : List Field) : Type 0 where
  pub field : Field
  pub first : fields ≡ field ∷ behind
  pub ends : field.start + field.length ≤ place

-- Of all fields those from an index on are ahead: from the place on no cell is in one before them.
pub record IsPast (all : List Field) (place index : ℕ) (ahead : List Field) : Type 0 where
  pub in_order : AreInOrder ahead
  pub few : index + length ahead ≤ 256
  pub same : (cell : ℕ) → place ≤ cell → field_index all cell ≡ index_from index ahead cell
