-- The keys of a line that hang on the screen at which it stands.

use Rattle.std.specs.Prelude.{ℕ, List, [], ◌++◌, Option, None, Some, Result, Ok, Err, length, map, nat_lt, if◌then◌else◌}
use Rattle.std.specs.Result.{result_map_both}
use Rattle.ws_keys.specs.Strokes.{keys_of, runs_to, new_line_cell, erase_eof_runs, numbered_field, emptying_runs}
use Rattle.ws_keys.specs.declared.key_run.KeyRun.{KeyRun}
use Rattle.ws_screen.specs.ScreenParts.{ScreenParts}
use Rattle.ws_screen.specs.declared.field.Field.{Field}
use Rattle.ws_printing.specs.script.KeyWords.{KeyWords}
use Rattle.ws_script.specs.declared.lines.script_stroke.FieldFault.{FieldFault}
use Rattle.ws_script.specs.declared.lines.script_stroke.FieldFault.TheVariants.{NoSuchField, TooLong}
use Rattle.ws_script.specs.declared.lines.script_stroke.ScriptStroke.{ScriptStroke}
use Rattle.ws_script.specs.declared.lines.script_stroke.ScriptStroke.TheVariants.{Cursor, NewLine, EraseEof, Fill}

-- the keys that empty a field, which is to be filled with so many characters: it has a cell for each
abbrev pub filled_runs : ℕ → ℕ → Option Field → Result (List KeyRun) FieldFault
filled_runs cursor characters None = Err NoSuchField
filled_runs cursor characters (Some field) =
    if nat_lt field.length characters then Err TooLong else Ok (emptying_runs cursor field)

module _ {Q : Type 0} where
  -- the keys of the profile with which a stroke begins; a field that is filled is emptied first
  abbrev pub stroke_runs : ScreenParts → ScriptStroke Q → Result (List KeyRun) FieldFault
  stroke_runs s (Cursor cell) = Ok (runs_to s.cursor cell)
  stroke_runs s NewLine = Ok (runs_to s.cursor (new_line_cell s))
  stroke_runs s EraseEof = Ok (erase_eof_runs s)
  stroke_runs s (Fill filling) = filled_runs s.cursor (length filling.keys) (numbered_field s filling.number)

  -- the keys after them: what a field is filled with
  abbrev pub keys_behind : ScriptStroke Q → List Q
  keys_behind (Fill filling) = filling.keys
  keys_behind stroke = []

  -- the keys of a stroke at a screen, for a display with keys by these words
  abbrev pub stroke_keys : KeyWords Q → ScreenParts → ScriptStroke Q → Result (List Q) FieldFault
  stroke_keys w s stroke =
      result_map_both (λ runs. map w.profile (keys_of runs) ++ keys_behind stroke) (λ why. why) (stroke_runs s stroke)
