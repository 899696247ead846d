-- A session of both ends: whole items, and how many bytes of them have arrived

use Rattle.std.specs.Prelude.{◌≡◌, ℕ, zero, suc, ◌+◌, ◌-◌, List, [], ◌∷◌, ◌++◌, Bool, true, false, if◌then◌else◌}
use Rattle.std.specs.Prelude.{nat_lt, Option, Some, None, length, drop}
use Rattle.ws_nego.specs.declared.terminal.TerminalType.{TerminalType}
use Rattle.ws_nego.specs.Host.{opening}
use Rattle.ws_record.specs.declared.record.Item.{Item}
use Rattle.ws_record.specs.declared.record.Item.TheVariants.{Telnet as TelnetItem}
use Rattle.ws_record.specs.Arrived.{ending_at}
use Rattle.ws_record.specs.Encode.{plain_spelling}
use Rattle.ws_stream.specs.declared.element.Element.{Element}
use Rattle.ws_stream.specs.Elements.{element_rules}
use Rattle.ws_stream.specs.declared.answer_part.AnswerPart.{AnswerPart}
use Rattle.ws_keys.specs.declared.key.Key.{Key}
use Rattle.ws_keys.specs.declared.host_answer.HostAnswer.{HostAnswer}
use Rattle.ws_stream.specs.AnswerParts.{answer_rules}
use Rattle.ws_keys.specs.Splits.{answer_of}
use Rattle.ws_end.specs.declared.end_step.HostRequest.TheVariants.{Send as Sending, Cancel as Cancelling}
use Rattle.ws_end.specs.declared.station.key_fault.KeyFault.TheVariants.{Failed as KeyFailed}
use Rattle.ws_end.specs.declared.host_end.host_event.HostEvent.{HostEvent}
use Rattle.ws_end.specs.declared.host_end.send_fault.SendFault.TheVariants.{Failed as SendFailed}
use Rattle.ws_session.specs.declared.world.Event.{Event}
use Rattle.ws_session.specs.declared.world.Event.TheVariants.{Host, KeyRefused, SendRefused, StationRefused}
use Rattle.ws_session.specs.declared.world.Event.TheVariants.{HostRefused}
use Rattle.ws_session.specs.declared.world.Move.{Move}
use Rattle.ws_session.specs.declared.world.Move.TheVariants.{Send, Cancel, ToStation, ToHost, Key as Press}
use Rattle.ws_end.specs.Reaction.{Reaction, Refuses, GoesOn, empty_record}
use Rattle.ws_end.specs.station.StationEndState.{StationEndState, new_station_end, screen_at, station_takes}
use Rattle.ws_end.specs.station.StationEndState.{KeyReaction, RefusesKey, Silent, Answers, Signals, station_key}
use Rattle.ws_end.specs.station.StationEndState.{answer_record}
use Rattle.ws_end.specs.host_end.HostEndState.{HostEndState, new_host_end, HostOutput, host_takes, SendReaction}
use Rattle.ws_end.specs.host_end.HostEndState.{RefusesSend, Sends, host_requests}

-- a session in whole items: both ends, all items that each has written, how many of their bytes have arrived, and what
-- was told
pub record Session : Type 0 where
  pub station : StationEndState
  pub host : HostEndState
  pub down : List (Item Element)  -- all that the host end has written
  pub up : List (Item AnswerPart)  -- all that the station has written
  pub at_station : ℕ  -- so many bytes of the former's spelling have arrived
  pub at_host : ℕ  -- and of the latter's
  pub station_refused : Bool
  pub host_refused : Bool
  pub events : List Event
  pub answered : List HostAnswer  -- what the station has answered to reads, each by its screen at the key

-- a session at its start: the host end's first token is in flight
abbrev pub new_session : TerminalType → Session
new_session terminal = record {
  station = new_station_end terminal;
  host = new_host_end;
  down = TelnetItem opening ∷ [];
  up = [];
  at_station = 0;
  at_host = 0;
  station_refused = false;
  host_refused = false;
  events = [];
  answered = [];
}

-- all bytes that the host end has written
abbrev pub down_bytes : Session → List ℕ
down_bytes w = plain_spelling element_rules w.down

-- all bytes that the station has written
abbrev pub up_bytes : Session → List ℕ
up_bytes w = plain_spelling answer_rules w.up

-- the bytes in flight to the station
abbrev pub to_station : Session → List ℕ
to_station w = drop w.at_station (down_bytes w)

-- the bytes in flight to the host end
abbrev pub to_host : Session → List ℕ
to_host w = drop w.at_host (up_bytes w)

-- the session after what the station made of an item: it goes on and writes, or its refusal is told
abbrev pub station_did : Session → Reaction StationEndState (List (Item AnswerPart)) → Session
station_did w (Refuses reason) =
    record w { station_refused = true; events = w.events ++ StationRefused (w.at_station - 1) reason ∷ [] }
station_did w (GoesOn station items) = record w { station = station; up = w.up ++ items }

-- the session after a byte that arrived at the station, and completed this item or none; a station that has refused
-- takes none
abbrev pub station_gets : Session → Bool → Option (Item Element) → Session
station_gets w true item = w
station_gets w false None = w
station_gets w false (Some item) = station_did w (station_takes w.station item)

-- the events, and after them what the host end tells, if it tells something
abbrev pub events_with : List Event → Option HostEvent → List Event
events_with events None = events
events_with events (Some event) = events ++ Host event ∷ []

-- the session after what the host end made of an item: it goes on, writes and tells, or its refusal is told
abbrev pub host_did : Session → Reaction HostEndState HostOutput → Session
host_did w (Refuses reason) =
    record w { host_refused = true; events = w.events ++ HostRefused (w.at_host - 1) reason ∷ [] }
host_did w (GoesOn host output) =
    record w { host = host; down = w.down ++ output.items; events = events_with w.events output.event }

-- the session after a byte that arrived at the host end, and completed this item or none; a host end that has refused
-- takes none
abbrev pub host_gets : Session → Bool → Option (Item AnswerPart) → Session
host_gets w true item = w
host_gets w false None = w
host_gets w false (Some item) = host_did w (host_takes w.host item)

-- the session once the next byte in flight has arrived at the station, if there is one; an item arrives with its last
-- byte
abbrev pub byte_to_station : Session → Session
byte_to_station w =
    if nat_lt w.at_station (length (down_bytes w))
    then station_gets (record w { at_station = w.at_station + 1 }) w.station_refused
    (ending_at element_rules w.down (w.at_station + 1))
    else w

-- the session once the next byte in flight has arrived at the host end, if there is one; an item arrives with its last
-- byte
abbrev pub byte_to_host : Session → Session
byte_to_host w =
    if nat_lt w.at_host (length (up_bytes w))
    then host_gets (record w { at_host = w.at_host + 1 }) w.host_refused
    (ending_at answer_rules w.up (w.at_host + 1))
    else w

-- the session once so many bytes have arrived at the station, or all that are in flight
abbrev pub bytes_to_station : ℕ → Session → Session
bytes_to_station zero w = w
bytes_to_station (suc n) w = bytes_to_station n (byte_to_station w)

-- the session once so many bytes have arrived at the host end, or all that are in flight
abbrev pub bytes_to_host : ℕ → Session → Session
bytes_to_host zero w = w
bytes_to_host (suc n) w = bytes_to_host n (byte_to_host w)

-- the session after what the station made of a key: what it sends is written, an answer to a read is kept as one, and
-- a refusal is told
abbrev pub station_pressed : Session → KeyReaction → Session
station_pressed w (RefusesKey fault) = record w { events = w.events ++ KeyRefused fault ∷ [] }
station_pressed w (Silent station) = record w { station = station }
station_pressed w (Answers station kind aid) = record w {
  station = station;
  up = w.up ++ answer_record (screen_at w.station) kind aid ∷ [];
  answered = w.answered ++ answer_of kind (screen_at w.station) aid ∷ [];
}
station_pressed w (Signals opcode flags) = record w { up = w.up ++ empty_record flags opcode ∷ [] }

-- the session after a key; a station that has refused a byte takes none
abbrev pub after_press : Session → Key → Session
after_press w key =
    station_pressed w (if w.station_refused then RefusesKey KeyFailed else station_key w.station key)

-- the session after what the host end made of a send or a cancel: its record is written, or its refusal is told
abbrev pub host_sent : Session → SendReaction → Session
host_sent w (RefusesSend fault) = record w { events = w.events ++ SendRefused fault ∷ [] }
host_sent w (Sends host item) = record w { host = host; down = w.down ++ item ∷ [] }

-- the session after a send or a cancel; a host end that has refused a byte sends nothing
abbrev pub after_send : Session → SendReaction → Session
after_send w sends = host_sent w (if w.host_refused then RefusesSend SendFailed else sends)

-- the session after a move
abbrev pub after_move : Session → Move → Session
after_move w (Send opcode body) = after_send w (host_requests w.host (Sending opcode body))
after_move w Cancel = after_send w (host_requests w.host Cancelling)
after_move w (ToStation n) = bytes_to_station n w
after_move w (ToHost n) = bytes_to_host n w
after_move w (Press key) = after_press w key

-- the session after moves, in order
abbrev pub after_moves : Session → List Move → Session
after_moves w [] = w
after_moves w (move ∷ moves) = after_moves (after_move w move) moves

-- nothing is in flight
pub record IsQuiet (w : Session) : Type 0 where
  pub to_station : w.at_station ≡ length (down_bytes w)
  pub to_host : w.at_host ≡ length (up_bytes w)
