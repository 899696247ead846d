-- A screen that is saved, and comes back (SC30-3533, Save Screen and Restore Screen commands).
use Rattle.std.specs.Prelude.{◌≡◌, [], List, None, false, unwrap_or}
use Rattle.ws_code.specs.Code.{IsChain, spelling_of}
use Rattle.ws_nego.specs.declared.terminal.TerminalType.{TerminalType}
use Rattle.ws_record.specs.declared.record.Record.{Record}
use Rattle.ws_screen.specs.Bodies.{screen_of}
use Rattle.ws_screen.specs.Given.{Gives}
use Rattle.ws_screen.specs.ScreenParts.{IsLegal, ScreenParts}
use Rattle.ws_stream.specs.declared.element.Element.{Element}
use Rattle.ws_extended.specs.ErrorLine.{error_row, text_cursor}
use Rattle.ws_extended.specs.ExtendedElements.{extended_rules}
use Rattle.ws_extended.specs.ExtendedStates.{ExtendedState, state_after_reset}
use Rattle.ws_extended.specs.Image.{IsTyped}
use Rattle.ws_extended.specs.Telling.{told_bytes}
use Rattle.ws_extended.specs.declared.ask.Ask.TheVariants.{SaveScreen}
use Rattle.ws_extended.specs.declared.extended_element.ExtendedElement.{ExtendedElement}
use Rattle.ws_end.specs.station.Alarms.{alarms_of}
use Rattle.ws_end.specs.station.Displays.{Silent}
use Rattle.ws_end.specs.station.StationEndState.{opcode_events}
use Rattle.ws_extended_station.specs.ExtendedDisplays.{ExtendedEndState, extended, with_state}
use Rattle.ws_extended_station.specs.declared.extended_key.ExtendedKey.TheVariants.{Reset}
use Rattle.ws_extended_station.specs.ExtendedRecords.{record_fault, state_after_record}

-- a screen in hand is what a display tells of when it is saved: the one that Reset would leave
pub record IsSaved (state : ExtendedState) (screen : ScreenParts) : Type 0 where
  pub gives : Gives (state_after_reset state).history screen
  pub legal : IsLegal screen
  pub typed : IsTyped screen
  pub closed : screen.writing ≡ None

-- the body of the record is what was told at Save Screen, and its opcode does nothing
pub record BringsBack (terminal : TerminalType) (state : ExtendedState) (r : Record ExtendedElement) : Type 0 where
  pub chain : IsChain extended_rules extended_rules.first r.body
  pub spelled : spelling_of extended_rules r.body ≡ told_bytes SaveScreen terminal state
  pub idle : opcode_events r.opcode ≡ []

-- the record, on a display of this state, isn't refused and leaves the screen and the error line that were saved; no
-- error stands, and no alarm sounds
pub record ComesBack (saved : ExtendedState) (screen : ScreenParts) (state : ExtendedState) (r : Record ExtendedElement)
    : Type 0 where
  pub unrefused : record_fault state r.body ≡ None
  pub same : screen ≡ screen_of (state_after_record state r).history
  pub row : error_row (state_after_record state r).history ≡ error_row saved.history
  pub none_stands : (state_after_record state r).kept ≡ None
  pub silent : alarms_of (state_after_record state r).history ≡ alarms_of state.history

-- Reset after this record, whose text leads the cursor, sends nothing and leaves the screen as it was, but for the lock
-- and the cursor
abbrev pub TakesErrorBack : ExtendedEndState → ScreenParts → Record ExtendedElement → List Element → Type 0
TakesErrorBack end_state screen r text = let stood : ExtendedState = state_after_record end_state.happened.state r in
    (extended.presses (with_state end_state stood) Reset ≡ Silent (with_state end_state (state_after_reset stood)))
    × Gives (state_after_reset stood).history
    (record screen { locked = false; cursor = unwrap_or (text_cursor text None) screen.cursor })
