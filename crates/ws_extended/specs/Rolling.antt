-- Roll as elements of the profile (SC30-3533, Roll command).
use Rattle.std.specs.Prelude.{ℕ, ◌+◌, ◌-◌, ◌*◌, List, ◌∷◌, ◌++◌, length, take, drop, if◌then◌else◌}
use Rattle.ws_code.specs.declared.address.TheConstants.{COLUMNS}
use Rattle.ws_stream.specs.declared.element.Element.{Element}
use Rattle.ws_stream.specs.declared.element.Element.TheVariants.{Write}
use Rattle.ws_extended.specs.ErrorLine.{put_row, row_start}
use Rattle.ws_extended.specs.RollParts.{RollParts, roll_distance, rolls_down}

-- cells that move so far towards the first: those that nothing comes to, the last ones, stay as they are (own choice)
abbrev pub moved_up : ℕ → List ℕ → List ℕ
moved_up far cells = drop far cells ++ drop (length cells - far) cells

-- cells that move so far towards the last: the first ones stay as they are (own choice)
abbrev pub moved_down : ℕ → List ℕ → List ℕ
moved_down far cells = take far cells ++ take (length cells - far) cells

-- how many cells a Roll's rows have
abbrev pub roll_size : RollParts → ℕ
roll_size r = (r.bottom - r.top + 1) * COLUMNS

-- what a Roll's rows hold
abbrev pub roll_cells : RollParts → List ℕ → List ℕ
roll_cells r cells = take (roll_size r) (drop (row_start r.top) cells)

-- what they hold after it, of a screen with these cells
abbrev pub rolled : RollParts → List ℕ → List ℕ
rolled r cells =
    if rolls_down r
    then moved_down (roll_distance r * COLUMNS) (roll_cells r cells)
    else moved_up (roll_distance r * COLUMNS) (roll_cells r cells)

-- a Roll writes them from the first row's first cell on, and neither locks nor unlocks
abbrev pub roll_shown : RollParts → List ℕ → List Element
roll_shown r cells = Write 0 0 ∷ put_row r.top (rolled r cells)

-- the cells of a screen after it
abbrev pub cells_after_roll : RollParts → List ℕ → List ℕ
cells_after_roll r cells =
    take (row_start r.top) cells ++ (rolled r cells ++ drop (roll_size r) (drop (row_start r.top) cells))
