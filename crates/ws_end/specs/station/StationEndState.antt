-- The station: what it does at each item that arrives and at each key (RFC 1205, sections 3 and 4)

use Rattle.std.specs.Prelude.{◌≡◌, ℕ, List, [], ◌∷◌, ◌++◌, Bool, true, false, Option, Some, None}
use Rattle.ws_code.specs.Code.{IsChain, spelling_of}
use Rattle.ws_code.specs.declared.reason.Reason.{Reason}
use Rattle.ws_nego.specs.declared.terminal.TerminalType.{TerminalType}
use Rattle.ws_nego.specs.Station.{new_station}
use Rattle.ws_record.specs.declared.opcode.Opcode.{Opcode}
use Rattle.ws_record.specs.declared.opcode.Opcode.TheVariants.{NoOperation, PutGet, CancelInvite, MessageLightOn}
use Rattle.ws_record.specs.declared.opcode.Opcode.TheVariants.{MessageLightOff}
use Rattle.ws_record.specs.declared.record.Record.{Record}
use Rattle.ws_record.specs.declared.record.Item.{Item}
use Rattle.ws_record.specs.declared.record.Item.TheVariants.{Record as RecordItem}
use Rattle.ws_stream.specs.declared.element.Element.{Element}
use Rattle.ws_screen.specs.declared.read_kind.ReadKind.{ReadKind}
use Rattle.ws_screen.specs.Bodies.{after_elements, after_end, body_fault, screen_of}
use Rattle.ws_screen.specs.Events.{Event, lit, cancelled, History}
use Rattle.ws_screen.specs.ScreenParts.{ScreenParts}
use Rattle.ws_stream.specs.declared.answer_part.AnswerPart.{AnswerPart}
use Rattle.ws_stream.specs.declared.answer_place.AnswerPlace.{AnswerPlace}
use Rattle.ws_keys.specs.declared.key.Key.{Key}
use Rattle.ws_keys.specs.declared.key.Key.TheVariants.{Aid as Send, Attention, SystemRequest}
use Rattle.ws_keys.specs.declared.key.KeyRefusal.{KeyRefusal}
use Rattle.ws_keys.specs.Contents.{answer_parts}
use Rattle.ws_keys.specs.Keys.{key_refusal, edit_of, events_by}
use Rattle.ws_end.specs.station.Alarms.{alarm_count, alarms_of}
use Rattle.ws_end.specs.declared.station.key_fault.KeyFault.TheVariants.{Key as Refused}
use Rattle.ws_end.specs.Reaction.{Reaction, Refuses, GoesOn, empty_record}
use Rattle.ws_end.specs.station.Displays.{DisplayOf, EndStateOn, KeyReactionOn, OnDisplay, on_display}
pub use Rattle.ws_end.specs.station.Displays.{RefusesKey, Silent, Answers, Signals}
use Rattle.ws_end.specs.station.StationTransitions.{takes_on, key_on}
use Rattle.ws_stream.specs.AnswerParts.{answer_rules}
use Rattle.ws_screen.specs.Given.{Gives}
use Rattle.ws_end.specs.declared.station.answer.TheConstants.{ATN, SRQ}
use Rattle.ws_stream.specs.Elements.{element_rules}

-- what a station has become: its options, and the events of its screen
abbrev pub StationEndState : Type 0
StationEndState = EndStateOn History

-- the state of a station to which nothing has happened
abbrev pub new_station_end : TerminalType → StationEndState
new_station_end terminal = record { options = new_station terminal; happened = [] }

-- the screen of a station: what its events give
abbrev pub screen_at : StationEndState → ScreenParts
screen_at s = screen_of s.happened

-- what a record's opcode does to the screen at its end (RFC 1205, section 4)
abbrev pub opcode_events : Opcode → List Event
opcode_events CancelInvite = cancelled ∷ []
opcode_events MessageLightOn = lit true ∷ []
opcode_events MessageLightOff = lit false ∷ []
opcode_events opcode = []

-- the events after a record, which acts at the moment of its EOR: its elements, the end of its write, its opcode
abbrev pub after_record : History → Record Element → History
after_record h r = opcode_events r.opcode ++ after_end (after_elements h r.body)

-- what answers a record's opcode: Cancel Invite is answered by an empty record of the same opcode
abbrev pub opcode_answer : Opcode → List (Item AnswerPart)
opcode_answer CancelInvite = empty_record 0 CancelInvite ∷ []
opcode_answer opcode = []

-- what the station does at a record, by the first reason for which the screen refuses its body: it refuses it, or
-- carries it out
abbrev pub station_applies : StationEndState → Record Element → Option Reason
    → Reaction StationEndState (List (Item AnswerPart))
station_applies s r (Some reason) = Refuses reason
station_applies s r None =
    GoesOn (record { options = s.options; happened = after_record s.happened r }) (opcode_answer r.opcode)

-- what the station of the profile does at a key: it refuses it, or goes on and sends something or nothing
abbrev pub KeyReaction : Type 0
KeyReaction = KeyReactionOn History

-- the key sends a record, for which records have to be allowed
abbrev pub sends : Key → Bool
sends (Send aid) = true
sends Attention = true
sends SystemRequest = true
sends key = false

-- the state of a station after a key that it took: its screen has the key's edit
abbrev pub after_key : StationEndState → Key → StationEndState
after_key s key =
    record { options = s.options; happened = events_by (edit_of (screen_at s) key) ++ s.happened }

-- what the station makes of an AID: it answers the pending read (where there is none, the screen refuses the key)
abbrev pub answers_read : StationEndState → ℕ → Option ReadKind → KeyReaction
answers_read s aid None = Silent (after_key s (Send aid))
answers_read s aid (Some kind) = Answers (after_key s (Send aid)) kind aid

-- what the station makes of a key that the screen doesn't refuse
abbrev pub presses : StationEndState → Key → KeyReaction
presses s (Send aid) = answers_read s aid (screen_at s).pending
presses s Attention = Signals NoOperation ATN
presses s SystemRequest = Signals NoOperation SRQ
presses s key = Silent (after_key s key)

-- what the station makes of a key, by the refusal of the screen, if it refuses it
abbrev pub key_by_refusal : StationEndState → Key → Option KeyRefusal → KeyReaction
key_by_refusal s key (Some refusal) = RefusesKey (Refused refusal)
key_by_refusal s key None = presses s key

-- the record that answers a read: opcode Put/Get, flags 0, and the answer's parts
abbrev pub answer_record : ScreenParts → ReadKind → ℕ → Item AnswerPart
answer_record screen kind aid =
    RecordItem (record { flags = 0; opcode = PutGet; body = answer_parts kind screen aid })

-- what a display of the profile has: its screen, and how many alarms have sounded
pub record ProfileParts : Type 0 where
  pub screen : ScreenParts
  pub alarms : ℕ

-- the display shows the screen that the events give, and tells as many alarms as sounded in them
pub record ProfileGives (h : History) (d : ProfileParts) : Type 0 where
  pub shows : Gives h d.screen
  pub sounds : d.alarms ≡ alarm_count (alarms_of h)

-- the display of the profile: its screen, and the count of alarms, are what the events of records and keys give
abbrev pub profile : DisplayOf ProfileParts Element History AnswerPlace AnswerPart Key (List ℕ)
profile = record {
  out = answer_rules;
  fresh = λ terminal. [];
  gives = λ h d. ProfileGives h d;
  shows = screen_of;
  shown = λ d. d.screen;
  sounds = alarms_of;
  sounded = λ d. d.alarms;
  applies = λ s r. station_applies s r (body_fault s.happened r.body);
  sends = sends;
  presses = λ s key. key_by_refusal s key (key_refusal (screen_at s) key);
  answer = answer_record;
  written = λ d reply. reply;
}

-- what the station does at an item: it answers a Telnet command, carries out a record, or refuses it for a reason
abbrev pub station_takes : StationEndState → Item Element → Reaction StationEndState (List (Item AnswerPart))
station_takes = takes_on profile

-- what the station makes of a key: until records are allowed it refuses one that sends
abbrev pub station_key : StationEndState → Key → KeyReaction
station_key = key_on profile

-- what a station of the profile stands on
abbrev pub on_profile : OnDisplay
on_profile = on_display element_rules profile

-- this holds of the body that these bytes spell
abbrev pub OfBody : List ℕ → (List Element → Type 0) → Type 0
OfBody bytes Holds = (body : List Element) → IsChain element_rules element_rules.first body
    → bytes ≡ spelling_of element_rules body → Holds body
