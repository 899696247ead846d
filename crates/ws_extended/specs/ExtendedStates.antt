-- What a live host's elements make of a display: the events of its screen, and the row that an error covers
-- (SC30-3533, commands; where a row comes back: own choice).
use Rattle.std.specs.Prelude.{ℕ, ◌+◌, ◌==◌, List, [], ◌∷◌, Bool, false, true, Option, Some, None, map, nat_le}
use Rattle.std.specs.Prelude.{if◌then◌else◌}
use Rattle.ws_code.specs.declared.address.TheConstants.{COLUMNS}
use Rattle.ws_code.specs.declared.reason.Reason.{Reason}
use Rattle.ws_code.specs.declared.reason.Reason.TheVariants.{PastEnd}
use Rattle.ws_stream.specs.declared.element.Element.{Element}
use Rattle.ws_stream.specs.declared.element.Element.TheVariants.{ClearUnit, ClearFormat, Write, ReadInput, ReadMdt}
use Rattle.ws_stream.specs.declared.element.Element.TheVariants.{ReadMdtAlternate, Put}
use Rattle.ws_screen.specs.Bodies.{after_element, after_elements, after_end, element_fault, screen_of}
use Rattle.ws_screen.specs.Controls.{cc1_code}
use Rattle.ws_screen.specs.Events.{History}
use Rattle.ws_screen.specs.ScreenParts.{ScreenParts}
use Rattle.ws_extended.specs.ErrorLine.{RESETS, error_begins, error_row, given_back, row_cells, shows_text}
use Rattle.ws_extended.specs.Image.{image}
use Rattle.ws_extended.specs.RollParts.{RollParts}
use Rattle.ws_extended.specs.Rolling.{roll_shown}
use Rattle.ws_extended.specs.declared.extended_element.ExtendedElement.{ExtendedElement}
use Rattle.ws_extended.specs.declared.extended_element.ExtendedElement.TheVariants.{Profile, Text, RestoreScreen}
use Rattle.ws_extended.specs.declared.extended_element.ExtendedElement.TheVariants.{Roll, WriteError, Asks}

-- a row that an error covers, as it was before
pub record Kept : Type 0 where
  pub row : ℕ
  pub cells : List ℕ

-- the events of a screen, the row that an error covers, if one stands, and how many bytes its text has
pub record ExtendedState : Type 0 where
  pub history : History
  pub kept : Option Kept
  pub text : ℕ

-- the elements that give a covered row back, where an error stands
abbrev pub gives_back : ℕ → Option Kept → List Element
gives_back cc2 None = []
gives_back cc2 (Some kept) = given_back cc2 kept.row kept.cells

-- the display with the row given back, with a CC2 for the end of the write, and no error
abbrev pub uncovered : ℕ → ExtendedState → ExtendedState
uncovered cc2 state = record state { history = after_elements state.history (gives_back cc2 state.kept); kept = None }

-- the CC1 sets fields to nulls
abbrev pub nulls_fields : ℕ → Bool
nulls_fields cc1 = nat_le 4 (cc1_code cc1)

-- the row comes back before this element of the profile: it writes or clears, or it sets fields to nulls
abbrev pub uncovers : Element → Bool
uncovers ClearUnit = true
uncovers ClearFormat = true
uncovers (Write cc1 cc2) = true
uncovers (ReadInput cc1 cc2) = nulls_fields cc1
uncovers (ReadMdt cc1 cc2) = nulls_fields cc1
uncovers (ReadMdtAlternate cc1 cc2) = nulls_fields cc1
uncovers e = false

-- the display as an element of the profile finds it
abbrev pub state_before : ExtendedState → Element → ExtendedState
state_before state e = if uncovers e then uncovered 0 state else state

-- the display after the end of the open write
abbrev pub state_after_end : ExtendedState → ExtendedState
state_after_end state = record state { history = after_end state.history }

-- the display after the beginning of an error: the cells of the error line are kept, and the row is blank
abbrev pub covered : ExtendedState → ExtendedState
covered state = record {
  history = after_elements state.history (error_begins (error_row state.history));
  kept = Some (record {
    row = error_row state.history;
    cells = row_cells (error_row state.history) (screen_of state.history).cells;
  });
  text = 0;
}

-- the display after a Roll, whose write ends with it
abbrev pub rolled_by : RollParts → ExtendedState → ExtendedState
rolled_by r state = record state {
  history = after_end (after_elements state.history (roll_shown r (screen_of state.history).cells));
}

-- a count of a text's bytes after an element of it
abbrev pub bytes_behind : ℕ → Element → ℕ
bytes_behind n (Put byte) = n + 1
bytes_behind n e = n

-- the display after an element: the profile's elements and a text's are carried out, and what asks ends an open write
-- and no more
abbrev pub state_after : ExtendedState → ExtendedElement → ExtendedState
state_after state (Profile e) = record (state_before state e) {
  history = after_element (state_before state e).history e;
}
state_after state (Text e) = record state {
  history = after_element state.history (shows_text e);
  text = bytes_behind state.text e;
}
state_after state RestoreScreen = state_after_end (uncovered 0 state)
state_after state (Roll r) = rolled_by r (uncovered 0 state)
state_after state WriteError = covered (uncovered 0 state)
state_after state (Asks ask) = state_after_end state

-- the display after several elements
abbrev pub state_after_all : ExtendedState → List ExtendedElement → ExtendedState
state_after_all state [] = state
state_after_all state (u ∷ us) = state_after_all (state_after state u) us

-- why the display refuses an element, if it does: as in the profile, or with more text than its row has cells
abbrev pub state_fault : ExtendedState → ExtendedElement → Option Reason
state_fault state (Profile e) = element_fault (state_before state e).history e
state_fault state (Text (Put byte)) =
    if state.text == COLUMNS then Some PastEnd else element_fault state.history (Put byte)
state_fault state (Text e) = None
state_fault state RestoreScreen = None
state_fault state (Roll r) = None
state_fault state WriteError = None
state_fault state (Asks ask) = None

-- the events of the key Reset: where an error stands, the row is given back, and the write ends
abbrev pub reset_history : History → Option Kept → History
reset_history h None = h
reset_history h (Some kept) = after_end (after_elements h (given_back RESETS kept.row kept.cells))

-- the display after the key Reset, which does nothing where no error stands
abbrev pub state_after_reset : ExtendedState → ExtendedState
state_after_reset state = record state { history = reset_history state.history state.kept; kept = None }

-- the screen that is told at once: the one that Reset would leave
abbrev pub told_screen : ExtendedState → ScreenParts
told_screen state = screen_of (state_after_reset state).history

-- what is sent at Save Screen and comes back later: a Restore Screen, and the screen's image
abbrev pub saved_screen : ℕ → ScreenParts → List ExtendedElement
saved_screen row s = RestoreScreen ∷ map Profile (image row s)
