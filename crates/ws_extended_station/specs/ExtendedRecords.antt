-- What a live host's record does to a display, and what is written at it (SC30-3533, commands; RFC 1205, sections 3
-- and 4). What is told at once is told of the display that the whole record leaves (own choice).
use Rattle.std.specs.Prelude.{ℕ, List, [], ◌∷◌, ◌++◌, Option, Some, None, map}
use Rattle.std.specs.Option.{option_or}
use Rattle.ws_code.specs.declared.reason.Reason.{Reason}
use Rattle.ws_nego.specs.declared.terminal.TerminalType.{TerminalType}
use Rattle.ws_record.specs.declared.opcode.Opcode.{Opcode}
use Rattle.ws_record.specs.declared.opcode.Opcode.TheVariants.{NoOperation, PutGet, SaveScreen}
use Rattle.ws_record.specs.declared.record.Record.{Record}
use Rattle.ws_record.specs.declared.record.Item.{Item}
use Rattle.ws_record.specs.declared.record.Item.TheVariants.{Record as RecordItem}
use Rattle.ws_extended.specs.Asking.{asks_in, first_ask, second_reason}
use Rattle.ws_extended.specs.ExtendedStates.{ExtendedState, state_after, state_after_all, state_after_end, state_fault}
use Rattle.ws_extended.specs.declared.ask.Ask.{Ask}
use Rattle.ws_extended.specs.declared.ask.Ask.TheVariants.{Query, ReadScreen, ReadImmediate, ReadImmediateAlternate}
use Rattle.ws_extended.specs.declared.ask.Ask.TheVariants.{SaveScreen as AskSave}
use Rattle.ws_extended.specs.declared.extended_element.ExtendedElement.{ExtendedElement}
use Rattle.ws_end.specs.station.StationEndState.{opcode_answer, opcode_events}
use Rattle.ws_extended_station.specs.Bytewise.{by_bytes}
use Rattle.ws_extended.specs.Telling.{told_bytes}

-- the first reason for which an element of the body is refused, if one is
abbrev pub elements_fault : ExtendedState → List ExtendedElement → Option Reason
elements_fault state [] = None
elements_fault state (u ∷ us) = option_or (state_fault state u) (elements_fault (state_after state u) us)

-- why a record is refused: it asks a second time, else by its elements (own choice)
abbrev pub record_fault : ExtendedState → List ExtendedElement → Option Reason
record_fault state body = option_or (second_reason (asks_in body)) (elements_fault state body)

-- the display after a record's opcode, which acts as in the profile; an error stands as before
abbrev pub state_after_opcode : Opcode → ExtendedState → ExtendedState
state_after_opcode opcode state = record state { history = opcode_events opcode ++ state.history }

-- the display after a record, which acts at the moment of its EOR: its elements, the end of its write, its opcode
abbrev pub state_after_record : ExtendedState → Record ExtendedElement → ExtendedState
state_after_record state r = state_after_opcode r.opcode (state_after_end (state_after_all state r.body))

-- the opcode of what is told at once (own choice, but for Save Screen)
abbrev pub told_opcode : Ask → Opcode
told_opcode Query = NoOperation
told_opcode AskSave = SaveScreen
told_opcode ReadScreen = PutGet
told_opcode ReadImmediate = PutGet
told_opcode ReadImmediateAlternate = PutGet

-- the record that tells a display what was asked, if something was
abbrev pub told_items : TerminalType → ExtendedState → Option Ask → List (Item ℕ)
told_items terminal state None = []
told_items terminal state (Some ask) = RecordItem (record {
  flags = 0;
  opcode = told_opcode ask;
  body = told_bytes ask terminal state;
}) ∷ []

-- what is written at a record: what it asks, told of the display that it leaves, and the answer to its opcode
abbrev pub record_writes : TerminalType → ExtendedState → Record ExtendedElement → List (Item ℕ)
record_writes terminal after r = told_items terminal after (first_ask (asks_in r.body))
    ++ map by_bytes (opcode_answer r.opcode)
