-- A station on any display: what it does at each item that arrives and at each key (RFC 1205, 4777)

use Rattle.std.specs.Prelude.{Bool, not, ◌&&◌, if◌then◌else◌, List, [], ◌∷◌, Option, Some, None, map}
use Rattle.ws_code.specs.declared.reason.Reason.TheVariants.{RecordBeforeNegotiation}
use Rattle.ws_nego.specs.declared.terminal.TerminalType.{TerminalType}
use Rattle.ws_nego.specs.Station.{new_station, station_answer, station_allows_records}
use Rattle.ws_record.specs.declared.record.Item.{Item}
use Rattle.ws_record.specs.declared.record.Item.TheVariants.{Record as RecordItem, Telnet as TelnetItem}
use Rattle.ws_end.specs.declared.station.key_fault.KeyFault.TheVariants.{NotReady}
use Rattle.ws_end.specs.declared.end_step.Applied.{Applied}
use Rattle.ws_end.specs.Reaction.{Reaction, Refuses, GoesOn, empty_record}
use Rattle.ws_end.specs.Acts.{Doing, idle}
use Rattle.ws_end.specs.station.Displays.{DisplayOf, EndStateOn, KeyReactionOn, RefusesKey, Silent, Answers, Signals}

-- what a station tells at the end of a record: it has applied it
abbrev pub applied : Applied
applied = record {}

-- what a station tells, by whether a record ended
abbrev pub event_by : Bool → Option Applied
event_by ends_record = if ends_record then Some applied else None

module _ {D U H PlaceV V K R : Type 0} (d : DisplayOf D U H PlaceV V K R) where
  -- the state of a station to which nothing has happened
  abbrev pub new_state_on : TerminalType → EndStateOn H
  new_state_on terminal = record { options = new_station terminal; happened = d.fresh terminal }

  -- what a station does at an item: it answers a Telnet command, hands a record to its display, and refuses one before
  -- records are allowed
  abbrev pub takes_on : EndStateOn H → Item U → Reaction (EndStateOn H) (List (Item V))
  takes_on s (TelnetItem token) =
      let answer = station_answer s.options token in
      GoesOn (record { options = answer.after; happened = s.happened }) (map TelnetItem answer.reply)
  takes_on s (RecordItem r) =
      if station_allows_records s.options then d.applies s r else Refuses RecordBeforeNegotiation

  -- what a station makes of a key: it hands it to its display; until records are allowed it refuses one that sends
  abbrev pub key_on : EndStateOn H → K → KeyReactionOn H
  key_on s key =
      if d.sends key && not (station_allows_records s.options) then RefusesKey NotReady else d.presses s key

  -- what a station has done after a key: it has gone on, and written what the key sends; at a refused one nothing
  abbrev pub at_key_on : EndStateOn H → KeyReactionOn H → Doing (EndStateOn H) V Applied
  at_key_on s (RefusesKey fault) = idle s
  at_key_on s (Silent next) = idle next
  at_key_on s (Answers next kind aid) = record {
    state = next;
    written = d.answer (d.shows s.happened) kind aid ∷ [];
    events = [];
  }
  at_key_on s (Signals opcode flags) = record { state = s; written = empty_record flags opcode ∷ []; events = [] }
