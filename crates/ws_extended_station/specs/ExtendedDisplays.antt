-- The display that live hosts use, as a station that stands on it sees it.
use Rattle.std.specs.Prelude.{ℕ, ◌≡◌, ◌&&◌, List, [], Bool, false, Option, Some, None, is_some, if◌then◌else◌}
use Rattle.ws_code.specs.declared.reason.Reason.{Reason}
use Rattle.ws_nego.specs.declared.terminal.TerminalType.{TerminalType}
use Rattle.ws_record.specs.RawBody.{raw_rules}
use Rattle.ws_record.specs.declared.record.Record.{Record}
use Rattle.ws_record.specs.declared.record.Item.{Item}
use Rattle.ws_screen.specs.Bodies.{screen_of}
use Rattle.ws_screen.specs.Events.{History}
use Rattle.ws_keys.specs.declared.key.KeyRefusal.TheVariants.{Locked}
use Rattle.ws_extended.specs.ExtendedKeys.{waits_for_reset}
use Rattle.ws_extended.specs.ExtendedStates.{ExtendedState, state_after_reset}
use Rattle.ws_extended.specs.ExtendedViews.{ExtendedParts, Shows}
use Rattle.ws_extended.specs.declared.extended_element.ExtendedElement.{ExtendedElement}
use Rattle.ws_end.specs.station.Alarms.{alarm_count, alarms_of}
use Rattle.ws_end.specs.declared.station.key_fault.KeyFault.TheVariants.{Key as Refused}
use Rattle.ws_end.specs.station.Displays.{DisplayOf, EndStateOn, KeyReactionOn, RefusesKey, Silent, Answers, Signals}
use Rattle.ws_end.specs.station.Displays.{OnDisplay, on_display}
use Rattle.ws_end.specs.Reaction.{Reaction, Refuses, GoesOn}
use Rattle.ws_end.specs.station.StationEndState.{StationEndState, answer_record, profile}
use Rattle.ws_extended_station.specs.Bytewise.{by_bytes}
use Rattle.ws_extended_station.specs.ExtendedRecords.{record_fault, record_writes, state_after_record}
use Rattle.ws_extended_station.specs.declared.extended_key.ExtendedKey.{ExtendedKey}
use Rattle.ws_extended_station.specs.declared.extended_key.ExtendedKey.TheVariants.{Profile, Reset}
use Rattle.ws_extended_station.specs.declared.extended_reply.ExtendedReply.{ExtendedReply}
use Rattle.ws_extended_station.specs.declared.extended_reply.ExtendedReply.TheVariants.{Bytes, Kept as IsKept}
use Rattle.ws_extended.specs.ExtendedElements.{extended_rules}

-- a display that live hosts use, how many alarms have sounded, its terminal, and the bytes that its last record had it
-- write
pub record DisplayParts : Type 0 where
  pub display : ExtendedParts
  pub alarms : ℕ
  pub terminal : TerminalType
  pub told : List ℕ

-- what has happened to a display that live hosts use, and its terminal
pub record ExtendedHappened : Type 0 where
  pub state : ExtendedState
  pub terminal : TerminalType

-- what happened gives this display
pub record ExtendedGives (h : ExtendedHappened) (d : DisplayParts) : Type 0 where
  pub shows : Shows h.state d.display
  pub sounds : d.alarms ≡ alarm_count (alarms_of h.state.history)
  pub terminal_is : d.terminal ≡ h.terminal

-- the row on which an error stands, if one does
abbrev pub standing_row : ExtendedParts → Option ℕ
standing_row d = if is_some d.kept then Some d.error_row else None

-- a display to which nothing has happened
abbrev pub new_happened : TerminalType → ExtendedHappened
new_happened terminal = record { state = record { history = []; kept = None; text = 0 }; terminal = terminal }

-- what a station on such a display has become: its options, and what has happened to the display
abbrev pub ExtendedEndState : Type 0
ExtendedEndState = EndStateOn ExtendedHappened

-- a side whose display has come to another state
abbrev pub with_state : ExtendedEndState → ExtendedState → ExtendedEndState
with_state s state = record s { happened = record s.happened { state = state } }

-- the side of a station of the profile in one on this display
abbrev pub profile_state : ExtendedEndState → StationEndState
profile_state s = record { options = s.options; happened = s.happened.state.history }

-- the side of a station on this display, with what happened to a station of the profile
abbrev pub with_profile : ExtendedEndState → StationEndState → ExtendedEndState
with_profile s t = record {
  options = t.options;
  happened = record s.happened { state = record s.happened.state { history = t.happened } };
}

-- what the station does at a record, by the reason for which its display refuses it, if it does
abbrev pub extended_applies : ExtendedEndState → Record ExtendedElement → Option Reason
    → Reaction ExtendedEndState (List (Item ℕ))
extended_applies s r (Some reason) = Refuses reason
extended_applies s r None =
    let after = state_after_record s.happened.state r in
    GoesOn (with_state s after) (record_writes s.happened.terminal after r)

-- what a station of the profile does at a key, as what a station on this display does
abbrev pub as_profile : ExtendedEndState → KeyReactionOn History → KeyReactionOn ExtendedHappened
as_profile s (RefusesKey fault) = RefusesKey fault
as_profile s (Silent next) = Silent (with_profile s next)
as_profile s (Answers next kind aid) = Answers (with_profile s next) kind aid
as_profile s (Signals opcode flags) = Signals opcode flags

-- what the station makes of a key: as the profile, but where an error stands keys wait for Reset
abbrev pub extended_presses : ExtendedEndState → ExtendedKey → KeyReactionOn ExtendedHappened
extended_presses s Reset = Silent (with_state s (state_after_reset s.happened.state))
extended_presses s (Profile key) =
    if is_some s.happened.state.kept && waits_for_reset key then RefusesKey (Refused Locked)
    else as_profile s (profile.presses (profile_state s) key)

-- the key sends a record; Reset sends nothing
abbrev pub extended_sends : ExtendedKey → Bool
extended_sends Reset = false
extended_sends (Profile key) = profile.sends key

-- the bytes of a reply: at a record, those that it had the display write
abbrev pub extended_written : DisplayParts → ExtendedReply → List ℕ
extended_written d (Bytes bytes) = bytes
extended_written d IsKept = d.told

-- the display that live hosts use; what it writes is told by its bytes
abbrev pub extended : DisplayOf DisplayParts ExtendedElement ExtendedHappened (Unit {0}) ℕ ExtendedKey ExtendedReply
extended = record {
  out = raw_rules;
  fresh = new_happened;
  gives = λ h d. ExtendedGives h d;
  shows = λ h. screen_of h.state.history;
  shown = λ d. d.display.screen;
  sounds = λ h. alarms_of h.state.history;
  sounded = λ d. d.alarms;
  applies = λ s r. extended_applies s r (record_fault s.happened.state r.body);
  sends = extended_sends;
  presses = extended_presses;
  answer = λ screen kind aid. by_bytes (answer_record screen kind aid);
  written = extended_written;
}

-- what a station at a live host stands on
abbrev pub on_extended : OnDisplay
on_extended = on_display extended_rules extended
