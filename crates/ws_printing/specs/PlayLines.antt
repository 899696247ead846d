-- The lines of a session's report, as texts in bytes. Numbers are in decimal, hex is in upper case.

use Rattle.std.specs.Prelude.{◌≡◌, ℕ, List, [], ◌∷◌, ◌++◌, Bool, true, false, not, codes, if◌then◌else◌}
use Rattle.std.specs.List.{flat_map, list_all}
use Rattle.std.specs.Fmt.{decimal}
use Rattle.hex.specs.Hex.{encode_upper}
use Rattle.ws_code.specs.declared.reason.Reason.{Reason}
use Rattle.ws_code.specs.Reason.{number_of}
use Rattle.ws_nego.specs.Terminal.{terminal_type_name as terminal_name}
use Rattle.ws_screen.specs.ScreenParts.{ScreenParts}
use Rattle.ws_keys.specs.declared.key.KeyRefusal.{KeyRefusal}
use Rattle.ws_keys.specs.declared.key.KeyRefusal.TheVariants.{Locked, Protected, WrongCharacter, DupNotAllowed, NoRoom}
use Rattle.ws_keys.specs.declared.key.KeyRefusal.TheVariants.{NoReadPending, MandatoryEnter, FieldExitRequired, MandatoryFill}
use Rattle.ws_keys.specs.declared.host_answer.HostAnswer.{HostAnswer}
use Rattle.ws_keys.specs.declared.host_answer.ReadField.{ReadField}
use Rattle.ws_end.specs.declared.station.key_fault.KeyFault.{KeyFault}
use Rattle.ws_end.specs.declared.station.key_fault.KeyFault.TheVariants.{Failed as KeyFailed, NotReady, Key}
use Rattle.ws_end.specs.declared.host_end.host_event.HostEvent.{HostEvent}
use Rattle.ws_end.specs.declared.host_end.host_event.HostEvent.TheVariants.{Ready, Answer, Attention, SystemRequest}
use Rattle.ws_end.specs.declared.host_end.host_event.HostEvent.TheVariants.{Cancelled}
use Rattle.ws_end.specs.declared.host_end.send_fault.SendFault.{SendFault}
use Rattle.ws_end.specs.declared.host_end.send_fault.SendFault.TheVariants.{Failed, NotAllowed, ReadOutstanding}
use Rattle.ws_end.specs.declared.host_end.send_fault.SendFault.TheVariants.{NoReadToCancel, BadSequence, Screen, TooBig}
use Rattle.ws_end.specs.declared.host_end.send_fault.SendFault.TheVariants.{Memory}
use Rattle.ws_session.specs.declared.world.Event.{Event}
use Rattle.ws_session.specs.declared.world.Event.TheVariants.{Host, KeyRefused, SendRefused, StationRefused}
use Rattle.ws_session.specs.declared.world.Event.TheVariants.{HostRefused}
use Rattle.ws_printing.specs.PlaceAndReason.{place_and_reason}
use Rattle.ws_text.specs.ItemLines.{cell_text, hex_behind_blank}
use Rattle.ws_printing.specs.ScreenLines.{on_037, screen_text}
use Rattle.ws_printing.specs.declared.paint.Paint.{Paint}
use Rattle.ws_printing.specs.declared.paint.Paint.TheVariants.{Plain}

-- a field of an answer: its first cell, and its content where there is any
abbrev pub read_field_text : ReadField → List ℕ
read_field_text field = codes "  field " ++ cell_text field.address ++ hex_behind_blank field.content ++ codes "\n"

-- an answer's cursor and AID
abbrev pub answer_line : HostAnswer → List ℕ
answer_line answer = codes "answer " ++ cell_text answer.cursor ++ codes " " ++ encode_upper (answer.aid ∷ [])
    ++ codes "\n"

-- what a host end tells; an answer has a line for each field
abbrev pub host_event_text : HostEvent → List ℕ
host_event_text (Ready terminal) = codes "host ready " ++ terminal_name terminal ++ codes "\n"
host_event_text (Answer answer) = answer_line answer ++ flat_map read_field_text answer.fields
host_event_text Attention = codes "attention\n"
host_event_text SystemRequest = codes "system request\n"
host_event_text Cancelled = codes "cancelled\n"

-- the name of why a key is refused
abbrev pub refusal_name : KeyRefusal → List ℕ
refusal_name Locked = codes "Locked"
refusal_name Protected = codes "Protected"
refusal_name WrongCharacter = codes "WrongCharacter"
refusal_name DupNotAllowed = codes "DupNotAllowed"
refusal_name NoRoom = codes "NoRoom"
refusal_name NoReadPending = codes "NoReadPending"
refusal_name MandatoryEnter = codes "MandatoryEnter"
refusal_name FieldExitRequired = codes "FieldExitRequired"
refusal_name MandatoryFill = codes "MandatoryFill"

-- why a key has no effect
abbrev pub key_fault_name : KeyFault → List ℕ
key_fault_name KeyFailed = codes "Failed"
key_fault_name NotReady = codes "NotReady"
key_fault_name (Key refusal) = refusal_name refusal

-- why a host end does not send
abbrev pub send_fault_name : SendFault → List ℕ
send_fault_name Failed = codes "Failed"
send_fault_name NotAllowed = codes "NotAllowed"
send_fault_name ReadOutstanding = codes "ReadOutstanding"
send_fault_name NoReadToCancel = codes "NoReadToCancel"
send_fault_name BadSequence = codes "BadSequence"
send_fault_name (Screen reason) = codes "Screen " ++ decimal (number_of reason)
send_fault_name TooBig = codes "TooBig"
send_fault_name Memory = codes "Memory"

-- the rest of the line of a byte that an end refuses
abbrev pub refused_text : ℕ → Reason → List ℕ
refused_text place reason = codes " refused at " ++ place_and_reason place reason

-- the lines of an event
abbrev pub event_text : Event → List ℕ
event_text (Host event) = host_event_text event
event_text (KeyRefused fault) = codes "key refused " ++ key_fault_name fault ++ codes "\n"
event_text (SendRefused fault) = codes "send refused " ++ send_fault_name fault ++ codes "\n"
event_text (StationRefused place reason) = codes "station" ++ refused_text place reason
event_text (HostRefused place reason) = codes "host" ++ refused_text place reason

-- all events in their order
abbrev pub events_text : List Event → List ℕ
events_text events = flat_map event_text events

-- the lines of a screen in a paint, on page 037, where they are asked for
abbrev pub screen_lines : Paint → Bool → ScreenParts → List ℕ
screen_lines paint asked screen = if asked then screen_text (on_037 paint) screen else []

-- the whole text of a session's report: the lines of its events, and after them the station's screen in a paint, where
-- it is asked for
abbrev pub IsPaintedPlayText : Paint → List Event → ScreenParts → Bool → List ℕ → Type 0
IsPaintedPlayText paint events station screen text = text ≡ events_text events ++ screen_lines paint screen station

-- the whole text of a session's report, with its screen in plain text
abbrev pub IsPlayText : List Event → ScreenParts → Bool → List ℕ → Type 0
IsPlayText = IsPaintedPlayText Plain

-- the event is that an end has refused a byte
abbrev pub is_end_refusal : Event → Bool
is_end_refusal (StationRefused place reason) = true
is_end_refusal (HostRefused place reason) = true
is_end_refusal event = false

-- no end has refused a byte
abbrev pub no_end_refuses : List Event → Bool
no_end_refuses events = list_all (λ event. not (is_end_refusal event)) events
