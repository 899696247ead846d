-- How far a run has come

use Rattle.std.specs.Prelude.{◌≡◌, ℕ, ◌+◌, ◌<◌, ◌^◌, List, length, drop}
use Rattle.ws_code.specs.Device.{Writer, WentOut}
use Rattle.ws_nego.specs.declared.terminal.TerminalType.{TerminalType}
use Rattle.ws_record.specs.declared.record.Item.{Item}
use Rattle.ws_record.specs.Encode.{plain_spelling}
use Rattle.ws_stream.specs.AnswerParts.{answer_rules}
use Rattle.ws_stream.specs.declared.element.Element.{Element}
use Rattle.ws_keys.specs.declared.key.Key.{Key}
use Rattle.ws_end.specs.Acts.{Happening, doing}
use Rattle.ws_end.specs.EndTransitions.{station_transitions}
use Rattle.ws_end.specs.declared.attached.player.Player.{Player}
use Rattle.ws_end.specs.station.Moments.{later, refused_keys}
use Rattle.ws_end.specs.station.StationCounts.{records_in}
use Rattle.ws_end.specs.station.StationEndState.{StationEndState}
use Rattle.ws_end.specs.station.StationReached.{StationReached}
use Rattle.ws_end.specs.attached.StationRun.{Schedule, schedule, Outflow, outflow, IsBehind, refused_behind}
use Rattle.ws_end.specs.attached.StationRun.{HasWrittenAll, refusal_count}

-- the bytes have brought a player of this run here
pub record HaveBroughtPlayer {S : Type 0} (run : Schedule) (out : Outflow S) (player : Player) (bytes : List ℕ)
    (items : List (Item Element)) : Type 0 where
  pub is_behind : IsBehind run bytes items player.station
  pub refused : player.keys_refused ≡ refusal_count (refused_behind run items)
  pub left : drop player.pressed run.keys ≡ later (records_in items) run.keys
  pub wrote : HasWrittenAll run out items

-- the bytes have brought it here, whatever items they hold
abbrev pub IsBrought : {S : Type 0} → Schedule → Outflow S → Player → List ℕ → Type 0
IsBrought run out player bytes = (items : List (Item Element)) × HaveBroughtPlayer run out player bytes items

module _ {S : Type 0} (writer : Writer S) where
  -- this has happened at a player that stood in this state, and what it wrote went out
  pub record HasDone (bytes : List ℕ) (items : List (Item Element)) (old new : Player) (from to : S)
      (state : StationEndState) (happened : List (Happening Element Key)) : Type 0 where
    pub reached : StationReached new.station bytes items (doing station_transitions state happened).state
    pub refused : (before : ℕ) → old.keys_refused ≡ refusal_count before
        → new.keys_refused ≡ refusal_count (before + refused_keys state happened)
    pub wrote : WentOut writer from to
        (plain_spelling answer_rules (doing station_transitions state happened).written)

  -- this holds of whatever brought the player here, where so many bytes more can be counted: what the run was given,
  -- from where the sink began, and the bytes
  abbrev pub AtPlayer : List (ℕ × Key) → Player → S → ℕ → (Schedule → S → List ℕ → Type 0) → Type 0
  AtPlayer keys player now more Holds =
      (start : S) (terminal : TerminalType) (bytes : List ℕ) (items : List (Item Element))
      → HaveBroughtPlayer (schedule terminal keys) (outflow writer start now) player bytes items
      → length bytes + more + 1 < 2 ^ 64 → Holds (schedule terminal keys) start bytes
