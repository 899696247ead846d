-- A station on any display, by the bytes that lead to it, and what a byte or a key makes of it (RFC 1205, 4777)

use Rattle.std.specs.Prelude.{◌≡◌, ℕ, List, [], Option, Some, None, Result, Ok, Err}
use Rattle.ws_nego.specs.declared.terminal.TerminalType.{TerminalType}
use Rattle.ws_record.specs.declared.record.Item.{Item}
use Rattle.ws_record.specs.declared.opcode.Opcode.TheVariants.{NoOperation}
use Rattle.ws_screen.specs.declared.read_kind.ReadKind.{ReadKind}
use Rattle.ws_keys.specs.Contents.{answer_bytes}
use Rattle.ws_keys.specs.declared.answer.Answer.{Answer}
use Rattle.ws_keys.specs.declared.answer.Answer.TheVariants.{Read, Attention, SystemRequest}
use Rattle.ws_end.specs.declared.refusal.Refusal.{Refusal}
use Rattle.ws_end.specs.declared.end_step.Applied.{Applied}
use Rattle.ws_end.specs.declared.end_step.EndStep.{EndStep}
use Rattle.ws_end.specs.declared.station.key_fault.KeyFault.{KeyFault}
use Rattle.ws_end.specs.declared.station.answer.TheConstants.{ATN, SRQ}
use Rattle.ws_end.specs.driver.Driven.{AtDriver, DriverPushes, IsReached}
use Rattle.ws_end.specs.station.Displays.{OnDisplay, EndStateOn, RefusesKey, Silent, Answers, Signals}
use Rattle.ws_end.specs.station.StationTransitions.{new_state_on, key_on}
pub use Rattle.ws_end.specs.station.StationReacting.{PartsOn, station_driving}

-- a station that stands on this
abbrev pub StationOf : OnDisplay → Type 0
StationOf on = PartsOn on.Parts on.Place

-- the items that come to it
abbrev pub ItemsOf : OnDisplay → Type 0
ItemsOf on = List (Item on.Reads)

-- the states in which it may stand
abbrev pub EndStateOf : OnDisplay → Type 0
EndStateOf on = EndStateOn on.Happened

module _ (on : OnDisplay) where
  -- The bytes lead to the station: they hold these items, none of them is refused, and what the station did at them and
  -- at the keys between them left it in this state.
  abbrev pub ReachedOn : StationOf on → List ℕ → ItemsOf on → EndStateOf on → Type 0
  ReachedOn = IsReached (station_driving on)

  -- this holds of whatever led to the station: the bytes, their items, and the state in which they left it
  abbrev pub AtStationOn : StationOf on → (List ℕ → ItemsOf on → EndStateOf on → Type 0) → Type 0
  AtStationOn = AtDriver (station_driving on)

  -- the station has taken no byte and no key
  pub record FreshOn (station : StationOf on) : Type 0 where
    pub terminal : TerminalType
    pub reached : ReachedOn station [] [] (new_state_on on.does terminal)

  -- the reply of what a byte gives, or why it is refused
  abbrev pub reply_of : Result (EndStep Applied on.Replied) Refusal → Result on.Replied Refusal
  reply_of (Ok step) = Ok step.reply
  reply_of (Err why) = Err why

  -- what a byte gives: the reply of what it gives the driver
  abbrev pub IsPushedOn : StationOf on → ℕ → StationOf on → Result on.Replied Refusal → Type 0
  IsPushedOn old byte new result = (gave : Result (EndStep Applied on.Replied) Refusal)
      × DriverPushes (station_driving on) old byte new gave × (result ≡ reply_of gave)

  -- what a key gives: its refusal, with the station as it was; or what it sends: nothing, a read's answer, Attention or
  -- System Request
  abbrev pub IsKeyedOn : StationOf on → StationOf on → List ℕ → ItemsOf on → EndStateOf on → on.Pressed
      → Result (Option Answer) KeyFault → Type 0
  IsKeyedOn old new bytes items state key (Err fault) = (key_on on.does state key ≡ RefusesKey fault) × (new ≡ old)
  IsKeyedOn old new bytes items state key (Ok None) = (next : EndStateOf on) × (key_on on.does state key ≡ Silent next)
      × ReachedOn new bytes items next
  IsKeyedOn old new bytes items state key (Ok (Some (Read body))) = (next : EndStateOf on) × (kind : ReadKind) ×
      (aid : ℕ) × (key_on on.does state key ≡ Answers next kind aid)
      × (body ≡ answer_bytes kind (on.does.shows state.happened) aid) × ReachedOn new bytes items next
  IsKeyedOn old new bytes items state key (Ok (Some Attention)) = (key_on on.does state key ≡ Signals NoOperation ATN)
      × ReachedOn new bytes items state
  IsKeyedOn old new bytes items state key (Ok (Some SystemRequest)) = (key_on on.does state key
      ≡ Signals NoOperation SRQ) × ReachedOn new bytes items state
