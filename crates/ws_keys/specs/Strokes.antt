-- Strokes of a keyboard that are several keys here: the cursor goes to a cell, New Line (SC30-3533, keyboard
-- functions), Erase EOF, and a field that is emptied (own choice: as stations with a PC's keyboard do it).
use Rattle.std.specs.Prelude.{ℕ, ◌≡◌, ◌+◌, ◌-◌, ◌*◌, ◌/◌, ◌%◌, List, [], ◌∷◌, ◌++◌, Bool, false, true, Option}
use Rattle.std.specs.Prelude.{Some, None}
use Rattle.std.specs.Prelude.{◌&&◌, ◌==◌, nat_lt, find, flat_map, replicate, slice_get, if◌then◌else◌}
use Rattle.std.specs.Option.{option_map_or, option_or}
use Rattle.ws_code.specs.declared.address.TheConstants.{COLUMNS, ROWS}
use Rattle.ws_screen.specs.declared.field.Field.{Field}
use Rattle.ws_screen.specs.Events.{Edit}
use Rattle.ws_screen.specs.Formats.{starts_at}
use Rattle.ws_screen.specs.Keyed.{open_field}
use Rattle.ws_screen.specs.ScreenParts.{ScreenParts, is_non_bypass, spans}
use Rattle.ws_keys.specs.Contents.{is_signed}
use Rattle.ws_keys.specs.Keys.{after_key_edit, answer_to, edit_of, key_refusal}
use Rattle.ws_keys.specs.declared.key.Key.{Key}
use Rattle.ws_keys.specs.declared.key.Key.TheVariants.{Left, Right, Up, Down, Delete}
use Rattle.ws_keys.specs.declared.key_run.KeyRun.{KeyRun}

-- RUNS OF KEYS

-- a key so many times
abbrev pub run_of : Key → ℕ → KeyRun
run_of key times = record { key = key; times = times }

-- the keys of some runs, one after another
abbrev pub keys_of : List KeyRun → List Key
keys_of runs = flat_map (λ r. replicate r.times r.key) runs

-- these keys, pressed one after another, are all taken, send nothing, and lead from the one screen to the other
abbrev pub LeadTo : List Key → ScreenParts → ScreenParts → Type 0
LeadTo [] s new = new ≡ s
LeadTo (key ∷ keys) s new = (key_refusal s key ≡ None) × (answer_to s key ≡ None)
    × LeadTo keys (after_key_edit (edit_of s key) s) new

-- TO A CELL

-- from one row or column to another, by the key that leads back or the one that leads on
abbrev pub run_between : Key → Key → ℕ → ℕ → KeyRun
run_between back on from to = if nat_lt from to then run_of on (to - from) else run_of back (from - to)

-- the keys from one cell to another: to its row, and then along the row
abbrev pub runs_to : ℕ → ℕ → List KeyRun
runs_to from to = run_between Up Down (from / COLUMNS) (to / COLUMNS)
    ∷ run_between Left Right (from % COLUMNS) (to % COLUMNS) ∷ []

-- NEW LINE

-- keys enter the field, and it begins in a row below that of a cell
abbrev pub opens_below : ℕ → Field → Bool
opens_below c f = is_non_bypass f && nat_lt (c / COLUMNS) (f.start / COLUMNS)

-- the first cell of the row below that of a cell, from the last row of the first
abbrev pub row_below : ℕ → ℕ
row_below c = (c / COLUMNS + 1) % ROWS * COLUMNS

-- where New Line leads: of the fields that keys enter to the first cell of the first that begins in a row below, else
-- of the first of all; where keys enter none, to the row below (own choice)
abbrev pub new_line_cell : ScreenParts → ℕ
new_line_cell s = option_map_or (λ f. f.start)
    (option_or (find (opens_below s.cursor) s.fields) (find is_non_bypass s.fields)) (row_below s.cursor)

-- ERASING

-- The keys by which the last n cells of the open field become 00, with the cursor in the first of them. Of a signed
-- numeric field Delete moves digits alone: the cursor goes to the sign, which is deleted too, and comes back.
abbrev pub erasing_runs : Field → ℕ → List KeyRun
erasing_runs f n =
    if is_signed f then run_of Delete (n - 1) ∷ run_of Right (n - 1) ∷ run_of Delete 1 ∷ run_of Left (n - 1) ∷ []
    else run_of Delete n ∷ []

-- the keys of Erase EOF: from the cursor's cell on the cells of the open field become 00; where there is none one
-- Delete, which is refused
abbrev pub erase_eof_runs : ScreenParts → List KeyRun
erase_eof_runs s =
    option_map_or (λ f. erasing_runs f (f.start + f.length - s.cursor)) (open_field s) (run_of Delete 1 ∷ [])

-- the edit by which the cells of a field from a cell on become 00, its MDT is turned on, and the cursor stands in that
-- cell
abbrev pub erasing_edit : Field → ℕ → Edit
erasing_edit f from = record {
  written = λ c. if spans from (f.start + f.length) c then Some 0 else None;
  modified = λ a. if starts_at a f then Some true else None;
  cursor = from;
  answered = false;
}

-- FIELDS BY NUMBER

-- the field of a number, which counts the fields from 1 by their starts
abbrev pub numbered_field : ScreenParts → ℕ → Option Field
numbered_field s number = if number == 0 then None else slice_get s.fields (number - 1)

-- the keys by which the cursor goes to a field's first cell, and all its cells become 00
abbrev pub emptying_runs : ℕ → Field → List KeyRun
emptying_runs from f = runs_to from f.start ++ erasing_runs f f.length
