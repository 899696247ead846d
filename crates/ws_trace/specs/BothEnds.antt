-- Both ends of a connection: what their items make, and why one isn't carried out.

use Rattle.std.specs.Prelude.{◌≡◌, [], Option, None}
use Rattle.ws_code.specs.declared.reason.Reason.{Reason}
use Rattle.ws_record.specs.declared.record.Item.{Item}
use Rattle.ws_record.specs.declared.record.Item.TheVariants.{Record as RecordItem, Telnet as TelnetItem}
use Rattle.ws_extended.specs.ExtendedStates.{ExtendedState}
use Rattle.ws_extended.specs.ExtendedViews.{ExtendedParts, Shows}
use Rattle.ws_extended.specs.declared.extended_answer_part.ExtendedAnswerPart.{ExtendedAnswerPart}
use Rattle.ws_extended.specs.declared.extended_element.ExtendedElement.{ExtendedElement}
use Rattle.ws_extended_station.specs.ExtendedRecords.{record_fault, state_after_record}
use Rattle.ws_trace.specs.Ends.{Tracing}

-- a display to which nothing has happened
abbrev pub new_state : ExtendedState
new_state = record { history = []; kept = None; text = 0 }

-- the display after an item: a record is carried out as a station does on it, a Telnet command has no effect
abbrev pub state_after_item : ExtendedState → Item ExtendedElement → ExtendedState
state_after_item state (RecordItem r) = state_after_record state r
state_after_item state (TelnetItem telnet) = state

-- why the display refuses an item, if it does
abbrev pub extended_item_fault : ExtendedState → Item ExtendedElement → Option Reason
extended_item_fault state (RecordItem r) = record_fault state r.body
extended_item_fault state (TelnetItem telnet) = None

-- a display that a host's items made, between two records
abbrev pub IsMadeDisplay : ExtendedState → ExtendedParts → Type 0
IsMadeDisplay state display = Shows state display × (display.screen.writing ≡ None)

-- a station's items make nothing
abbrev pub IsMadeNothing : Unit {0} → Unit {0} → Type 0
IsMadeNothing state made = Unit {0}

-- a host: its records are carried out on the display of a live host's station
abbrev pub host_end : Tracing ExtendedElement ExtendedState
host_end = record {
  first = new_state;
  fault = extended_item_fault;
  after = state_after_item;
}

-- a station: what it tells makes nothing
abbrev pub station_end : Tracing ExtendedAnswerPart (Unit {0})
station_end = record {
  first = tt;
  fault = λ _ _. None;
  after = λ _ _. tt;
}
