-- A session that runs, against the world of whole items.

use Rattle.std.specs.Prelude.{◌≡◌, ℕ, List, [], ◌∷◌, ◌++◌, take, Result, Ok, Err}
use Rattle.std.specs.List.{AllByRecursion}
use Rattle.ws_code.specs.Aid.{IsAid}
use Rattle.ws_code.specs.Code.{Rules}
use Rattle.ws_keys.specs.declared.key.Key.{Key}
use Rattle.ws_keys.specs.declared.key.Key.TheVariants.{Aid as Send}
use Rattle.ws_nego.specs.declared.terminal.TerminalType.{TerminalType}
use Rattle.ws_record.specs.declared.record.Item.{Item}
use Rattle.ws_record.specs.Encode.{CanAllBeEncoded, IsInRange}
use Rattle.ws_stream.specs.AnswerParts.{answer_rules}
use Rattle.ws_stream.specs.Elements.{element_rules}
use Rattle.ws_stream.specs.declared.answer_part.AnswerPart.{AnswerPart}
use Rattle.ws_stream.specs.declared.element.Element.{Element}
use Rattle.ws_end.specs.declared.end_step.Sent.{Sent}
use Rattle.ws_end.specs.declared.host_end.send_fault.SendFault.{SendFault}
use Rattle.ws_end.specs.declared.host_end.send_fault.SendFault.TheVariants.{Memory as SendMemory}
use Rattle.ws_session.specs.declared.world.Event.{Event}
use Rattle.ws_session.specs.declared.world.Event.TheVariants.{SendRefused}
use Rattle.ws_session.specs.declared.world.Move.{Move}
use Rattle.ws_end.specs.host_end.HostReached.{HostParts, HostReached, sent_bytes}
use Rattle.ws_end.specs.host_end.HostEndState.{HostEndState}
use Rattle.ws_end.specs.station.StationEndState.{StationEndState}
use Rattle.ws_end.specs.station.StationReached.{StationParts, StationReached}
use Rattle.ws_record.specs.Arrived.{arrived}
use Rattle.ws_session.specs.world.Wires.{AtEnd, at_end}
use Rattle.ws_session.specs.world.Session.{Session, new_session, after_moves, down_bytes, up_bytes}

-- What a running session keeps: both ends, all bytes that each has written, how many of them have arrived, and what
-- was told.
pub record WorldParts : Type 0 where
  pub station : StationParts
  pub host : HostParts
  pub down : List ℕ
  pub at_station : ℕ
  pub up : List ℕ
  pub at_host : ℕ
  pub events : List Event

-- the station's end of a running session
abbrev pub at_station_end : WorldParts → AtEnd StationParts
at_station_end w =
    at_end w.station (record { bytes = w.down; at = w.at_station }) (record { bytes = w.up; at = w.at_host }) w.events

-- the host's end of it
abbrev pub at_host_end : WorldParts → AtEnd HostParts
at_host_end w =
    at_end w.host (record { bytes = w.up; at = w.at_host }) (record { bytes = w.down; at = w.at_station }) w.events

-- what the host end has sent is in flight to the station, or it is told why nothing is
abbrev pub IsGiven : WorldParts → Result Sent SendFault → WorldParts → Type 0
IsGiven old (Ok sent) new = new ≡ record old { down = old.down ++ sent_bytes sent }
IsGiven old (Err SendMemory) new = ⊥
IsGiven old (Err fault) new = new ≡ record old { events = old.events ++ SendRefused fault ∷ [] }

-- items that can be written
abbrev pub AreWritable : {Place U : Type 0} → Rules Place U → List (Item U) → Type 0
AreWritable rules items = CanAllBeEncoded rules items × AllByRecursion IsInRange items

-- The running session is this world of whole items: some moves lead to it; what each end has taken is what has arrived
-- of the other's spelling, and this holds of that, of its items and of the end's state.
pub record RunsWith (AtStation : List ℕ → List (Item Element) → StationEndState → Type 0) (AtHost : List ℕ
    → List (Item AnswerPart) → HostEndState → Type 0) (t : TerminalType) (now : WorldParts) (w : Session) : Type 0 where
  pub moves : List Move
  pub by_moves : w ≡ after_moves (new_session t) moves
  pub down : now.down ≡ down_bytes w
  pub up : now.up ≡ up_bytes w
  pub at_station : now.at_station ≡ w.at_station
  pub at_host : now.at_host ≡ w.at_host
  pub writable_down : AreWritable element_rules w.down
  pub writable_up : AreWritable answer_rules w.up
  pub station : AtStation (take w.at_station (down_bytes w)) (arrived element_rules w.down w.at_station) w.station
  pub host : AtHost (take w.at_host (up_bytes w)) (arrived answer_rules w.up w.at_host) w.host
  pub events : now.events ≡ w.events

-- the running session is this world, and what has arrived leads to both ends
abbrev pub Runs : TerminalType → WorldParts → Session → Type 0
Runs t now w = RunsWith (StationReached now.station) (HostReached now.host) t now w

-- a key's AID is one
abbrev pub IsKey : Key → Type 0
IsKey (Send aid) = IsAid aid
IsKey key = Unit {0}
