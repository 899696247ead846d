-- A display, as the station that stands on it sees it: what records and keys do to it, and what is written for it

use Rattle.std.specs.Prelude.{◌≡◌, ℕ, List, Bool, Option, Some, None, Result, Ok, Err}
use Rattle.ws_code.specs.Code.{Rules}
use Rattle.ws_code.specs.declared.reason.Reason.{Reason}
use Rattle.ws_nego.specs.declared.terminal.TerminalType.{TerminalType}
use Rattle.ws_nego.specs.Station.{StationState}
use Rattle.ws_record.specs.declared.opcode.Opcode.{Opcode}
use Rattle.ws_record.specs.declared.opcode.Opcode.TheVariants.{NoOperation}
use Rattle.ws_record.specs.declared.record.Record.{Record}
use Rattle.ws_record.specs.declared.record.Item.{Item}
use Rattle.ws_record.specs.Encode.{plain_spelling}
use Rattle.ws_screen.specs.declared.read_kind.ReadKind.{ReadKind}
use Rattle.ws_screen.specs.ScreenParts.{ScreenParts}
use Rattle.ws_keys.specs.Contents.{answer_bytes}
use Rattle.ws_keys.specs.declared.answer.Answer.{Answer}
use Rattle.ws_keys.specs.declared.answer.Answer.TheVariants.{Read, Attention, SystemRequest}
use Rattle.ws_keys.specs.declared.key.KeyRefusal.{KeyRefusal}
use Rattle.ws_end.specs.declared.station.key_fault.KeyFault.{KeyFault}
use Rattle.ws_end.specs.declared.station.key_fault.KeyFault.TheVariants.{Key as Refused}
use Rattle.ws_end.specs.declared.station.answer.TheConstants.{ATN, SRQ}
use Rattle.ws_end.specs.Reaction.{Reaction, Refuses, GoesOn}

-- a station's options, and what has happened to its display
pub record EndStateOn (H : Type 0) : Type 0 where
  pub options : StationState
  pub happened : H

-- what a station does at a key: it refuses it, or goes on and sends nothing, a read's answer, or a record without a
-- body
pub data KeyReactionOn (H : Type 0) : Type 0 where
  RefusesKey : KeyFault → KeyReactionOn H
  Silent : EndStateOn H → KeyReactionOn H
  Answers : EndStateOn H → ReadKind → ℕ → KeyReactionOn H
  Signals : Opcode → ℕ → KeyReactionOn H

-- A display, by what it does: the rules of what it writes, what has happened to a new one, which displays what happened
-- gives, the screen by what happened and that of a display, how many alarms have sounded by what happened and how many
-- a display tells, what a record does, which keys send a record, what a key does that may be pressed, the record that
-- answers a read, and the bytes of a reply.
pub record DisplayOf (D U H PlaceV V K R : Type 0) : Type 1 where
  pub out : Rules PlaceV V
  pub fresh : TerminalType → H
  pub gives : H → D → Type 0
  pub shows : H → ScreenParts
  pub shown : D → ScreenParts
  pub sounds : H → ℕ
  pub sounded : D → ℕ
  pub applies : EndStateOn H → Record U → Reaction (EndStateOn H) (List (Item V))
  pub sends : K → Bool
  pub presses : EndStateOn H → K → KeyReactionOn H
  pub answer : ScreenParts → ReadKind → ℕ → Item V
  pub written : D → R → List ℕ

-- What a station stands on: the rules of what comes to it, and its display; before them the types of which these speak.
pub record OnDisplay : Type 1 where
  pub Parts : Type 0
  pub Place : Type 0
  pub Reads : Type 0
  pub Happened : Type 0
  pub WritePlace : Type 0
  pub Writes : Type 0
  pub Pressed : Type 0
  pub Replied : Type 0
  pub rules : Rules Place Reads
  pub does : DisplayOf Parts Reads Happened WritePlace Writes Pressed Replied

-- it stands on a display, by these rules
abbrev pub on_display : {D P U H PlaceV V K R : Type 0} → Rules P U → DisplayOf D U H PlaceV V K R → OnDisplay
on_display {D} {P} {U} {H} {PlaceV} {V} {K} {R} rules does = record {
  Parts = D;
  Place = P;
  Reads = U;
  Happened = H;
  WritePlace = PlaceV;
  Writes = V;
  Pressed = K;
  Replied = R;
  rules = rules;
  does = does;
}

module _ {D U H PlaceV V K R : Type 0} (d : DisplayOf D U H PlaceV V K R) where
  -- what a record gives a display: the display that it comes to and what is written; or the reason for which the record
  -- is refused
  abbrev pub IsApplied : D → EndStateOn H → Record U → Result R Reason → Type 0
  IsApplied new state r (Ok reply) = (next : EndStateOn H) × (writes : List (Item V))
      × (d.applies state r ≡ GoesOn next writes) × (d.written new reply ≡ plain_spelling d.out writes)
      × (next.options ≡ state.options) × d.gives next.happened new
  IsApplied new state r (Err reason) = d.applies state r ≡ Refuses reason

  -- the display is one that the state gives that the station comes to
  pub record ComesTo (new : D) (state next : EndStateOn H) : Type 0 where
    pub options : next.options ≡ state.options
    pub given : d.gives next.happened new

  -- what a key gives a display: its refusal, with the display as it was; or the display that it comes to, and what it
  -- sends
  abbrev pub IsPressedOnDisplay : D → D → EndStateOn H → K → Result (Option Answer) KeyRefusal → Type 0
  IsPressedOnDisplay old new state key (Err refusal) = (d.presses state key ≡ RefusesKey (Refused refusal)) ×
      (new ≡ old)
  IsPressedOnDisplay old new state key (Ok None) = (next : EndStateOn H) × (d.presses state key ≡ Silent next)
      × ComesTo new state next
  IsPressedOnDisplay old new state key (Ok (Some (Read body))) = (next : EndStateOn H) × (kind : ReadKind) × (aid : ℕ)
      × (d.presses state key ≡ Answers next kind aid) × (body ≡ answer_bytes kind (d.shows state.happened) aid)
      × ComesTo new state next
  IsPressedOnDisplay old new state key (Ok (Some Attention)) = (d.presses state key ≡ Signals NoOperation ATN)
      × d.gives state.happened new
  IsPressedOnDisplay old new state key (Ok (Some SystemRequest)) = (d.presses state key ≡ Signals NoOperation SRQ)
      × d.gives state.happened new
