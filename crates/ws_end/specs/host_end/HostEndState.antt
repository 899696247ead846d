-- The host end: what it does at each item that arrives, and what it sends (RFC 1205, sections 3 and 4)

use Rattle.std.specs.Prelude.{ℕ, ◌/◌, ◌%◌, ◌^◌, ◌==◌, List, [], ◌∷◌, Bool, true, false, not, ◌&&◌, ◌||◌, if◌then◌else◌}
use Rattle.std.specs.Prelude.{◌≡◌, Option, Some, None, is_some, map, length, nat_lt}
use Rattle.ws_code.specs.declared.reason.Reason.{Reason}
use Rattle.ws_code.specs.declared.reason.Reason.TheVariants.{RecordBeforeNegotiation, UnsupportedTerminal}
use Rattle.ws_code.specs.declared.reason.Reason.TheVariants.{UnaskedAnswer, AnswerMismatch}
use Rattle.ws_nego.specs.declared.terminal.TerminalType.{TerminalType}
use Rattle.ws_nego.specs.Options.{Answer}
use Rattle.ws_nego.specs.Host.{HostState, new_host, after_open, accepted_terminal, host_answer, host_allows_records}
use Rattle.ws_record.specs.declared.opcode.Opcode.{Opcode}
use Rattle.ws_record.specs.declared.opcode.Opcode.TheVariants.{NoOperation, PutGet, CancelInvite}
use Rattle.ws_record.specs.declared.record.Record.{Record}
use Rattle.ws_record.specs.declared.record.Item.{Item}
use Rattle.ws_record.specs.declared.record.Item.TheVariants.{Record as RecordItem, Telnet as TelnetItem}
use Rattle.ws_record.specs.Grammar.{record_bytes}
use Rattle.ws_stream.specs.declared.element.Element.{Element}
use Rattle.ws_stream.specs.Bodies.{is_body}
use Rattle.ws_stream.specs.Elements.{element_rules}
use Rattle.ws_screen.specs.declared.read_kind.ReadKind.{ReadKind}
use Rattle.ws_screen.specs.Bodies.{after_elements, after_end, body_fault}
use Rattle.ws_screen.specs.Events.{cancelled, History}
use Rattle.ws_screen.specs.Formats.{fields}
use Rattle.ws_screen.specs.States.{pending_read}
use Rattle.ws_stream.specs.declared.answer_part.AnswerPart.{AnswerPart}
use Rattle.ws_keys.specs.declared.host_answer.HostAnswer.{HostAnswer}
use Rattle.ws_keys.specs.Readings.{read_answer}
use Rattle.ws_end.specs.declared.end_step.HostRequest.{HostRequest}
use Rattle.ws_end.specs.declared.end_step.HostRequest.TheVariants.{Send, Cancel}
use Rattle.ws_end.specs.declared.host_end.host_event.HostEvent.{HostEvent}
use Rattle.ws_end.specs.declared.host_end.host_event.HostEvent.TheVariants.{Ready, Answer as Answered, Attention}
use Rattle.ws_end.specs.declared.host_end.host_event.HostEvent.TheVariants.{SystemRequest, Cancelled}
use Rattle.ws_end.specs.declared.host_end.send_fault.SendFault.{SendFault}
use Rattle.ws_end.specs.declared.host_end.send_fault.SendFault.TheVariants.{NotAllowed, ReadOutstanding, NoReadToCancel}
use Rattle.ws_end.specs.declared.host_end.send_fault.SendFault.TheVariants.{BadSequence, Screen as RefusedByScreen}
use Rattle.ws_end.specs.declared.host_end.send_fault.SendFault.TheVariants.{TooBig}
use Rattle.ws_end.specs.Reaction.{Output, Reaction, Refuses, GoesOn, empty_record}
use Rattle.ws_end.specs.declared.station.answer.TheConstants.{ATN, SRQ}

-- what a host end has become: its options, the events of the screen that it keeps, and whether a cancel is unanswered
pub record HostEndState : Type 0 where
  pub options : HostState
  pub kept : History
  pub cancelling : Bool

-- the state of a host end that has written its opening, and to which nothing has happened since
abbrev pub new_host_end : HostEndState
new_host_end = record { options = after_open new_host; kept = []; cancelling = false }

-- the read that the host end has asked and that isn't answered
abbrev pub asked_read : HostEndState → Option ReadKind
asked_read h = pending_read h.kept

-- what the host end writes at an item, and what it tells its caller
abbrev pub HostOutput : Type 0
HostOutput = Output Element HostEvent

-- what the host end puts out where it writes nothing, and tells this
abbrev pub event_output : Option HostEvent → HostOutput
event_output event = record { items = []; event = event }

-- what the host end tells is an answer
abbrev pub TellsAnswer : HostOutput → Type 0
TellsAnswer output = (answer : HostAnswer) × (output.event ≡ Some (Answered answer))

-- the event that a session is ready, by the terminal that was accepted
abbrev pub ready_by_terminal : Option TerminalType → Option HostEvent
ready_by_terminal None = None
ready_by_terminal (Some terminal) = Some (Ready terminal)

-- the event that a session is ready, once records are allowed and weren't before (RFC 1205, section 2)
abbrev pub ready_event : Bool → HostState → Option HostEvent
ready_event was_allowed now =
    if not was_allowed && host_allows_records now then ready_by_terminal (accepted_terminal now.name)
    else None

-- what the host end makes of its answer to a Telnet command: it is written; where there is none, the terminal isn't
-- supported
abbrev pub host_negotiates : HostEndState → Option (Answer HostState) → Reaction HostEndState HostOutput
host_negotiates h None = Refuses UnsupportedTerminal
host_negotiates h (Some answer) =
    GoesOn (record { options = answer.after; kept = h.kept; cancelling = h.cancelling })
    (record { items = map TelnetItem answer.reply; event = ready_event (host_allows_records h.options) answer.after })

-- the host end after the end of a read: nothing is pending on the screen that it keeps, and the keyboard is locked
abbrev pub after_read : HostEndState → Bool → HostEndState
after_read h cancelling = record { options = h.options; kept = cancelled ∷ h.kept; cancelling = cancelling }

-- what the host end makes of what is read from an answer: it is told; or the answer doesn't fit the read that was asked
abbrev pub host_reads : HostEndState → Option HostAnswer → Reaction HostEndState HostOutput
host_reads h None = Refuses AnswerMismatch
host_reads h (Some answer) = GoesOn (after_read h h.cancelling) (event_output (Some (Answered answer)))

-- what the host end makes of an answer, which it takes only while a read is asked
abbrev pub host_reads_by : HostEndState → Option ReadKind → List AnswerPart → Reaction HostEndState HostOutput
host_reads_by h None parts = Refuses UnaskedAnswer
host_reads_by h (Some kind) parts = host_reads h (read_answer kind (fields h.kept) parts)

-- what the host end makes of the answer to a cancel, which it takes only while one is unanswered
abbrev pub host_ends_cancel : HostEndState → Bool → Reaction HostEndState HostOutput
host_ends_cancel h false = Refuses UnaskedAnswer
host_ends_cancel h true = GoesOn (after_read h false) (event_output (Some Cancelled))

-- a flag of a record's header is on (RFC 1205, section 3)
abbrev pub has_flag : ℕ → ℕ → Bool
has_flag bit flags = flags / bit % 2 == 1

-- the key that the flags of a record tell: Attention or System Request (RFC 1205, section 3)
abbrev pub signal : ℕ → Option HostEvent
signal flags =
    if has_flag ATN flags then Some Attention
    else (if has_flag SRQ flags then Some SystemRequest else None)

-- what the host end makes of a record, by its opcode: an answer, the answer to a cancel, or a key without data
abbrev pub host_takes_record : HostEndState → ℕ → Opcode → List AnswerPart → Reaction HostEndState HostOutput
host_takes_record h flags PutGet parts = host_reads_by h (asked_read h) parts
host_takes_record h flags CancelInvite [] = host_ends_cancel h h.cancelling
host_takes_record h flags NoOperation [] = GoesOn h (event_output (signal flags))
host_takes_record h flags opcode parts = Refuses UnaskedAnswer

-- what the host end does at an item: it answers a Telnet command, tells a record, or refuses the item for a reason
abbrev pub host_takes : HostEndState → Item AnswerPart → Reaction HostEndState HostOutput
host_takes h (TelnetItem token) = host_negotiates h (host_answer h.options token)
host_takes h (RecordItem r) =
    if host_allows_records h.options then host_takes_record h r.flags r.opcode r.body
    else Refuses RecordBeforeNegotiation

-- what the host end does when it is to send: it refuses, or goes on and writes a record
pub data SendReaction : Type 0 where
  RefusesSend : SendFault → SendReaction
  Sends : HostEndState → Item Element → SendReaction

-- a read is asked or a cancel is unanswered, and the body isn't empty, so that it would disturb it
abbrev pub is_outstanding : HostEndState → List Element → Bool
is_outstanding h [] = false
is_outstanding h (e ∷ es) = is_some (asked_read h) || h.cancelling

-- the record of a send: its flags are all off
abbrev pub sent_record : Opcode → List Element → Record Element
sent_record opcode body = record { flags = 0; opcode = opcode; body = body }

-- the record has more bytes than its header can declare
abbrev pub is_too_big : Record Element → Bool
is_too_big r = not (nat_lt (length (record_bytes element_rules r)) (2 ^ 16))

-- what becomes of a body that is to be sent: the screen refuses it, it is too long for a record, or it is sent
abbrev pub host_sends_body : HostEndState → Opcode → List Element → Option Reason → SendReaction
host_sends_body h opcode body (Some reason) = RefusesSend (RefusedByScreen reason)
host_sends_body h opcode body None =
    if is_too_big (sent_record opcode body) then RefusesSend TooBig
    else Sends (record {
      options = h.options;
      kept = after_end (after_elements h.kept body);
      cancelling = h.cancelling;
    })
    (RecordItem (sent_record opcode body))

-- what the host end does at a send, by the first fault that applies
abbrev pub host_send : HostEndState → Opcode → List Element → SendReaction
host_send h opcode body =
    if not (host_allows_records h.options) then RefusesSend NotAllowed
    else (if is_outstanding h body then RefusesSend ReadOutstanding
    else (if not (is_body body) then RefusesSend BadSequence
    else host_sends_body h opcode body (body_fault h.kept body)))

-- what the host end does at a cancel, by the first fault that applies: it sends an empty Cancel Invite where a read is
-- asked
abbrev pub host_cancel : HostEndState → SendReaction
host_cancel h =
    if not (host_allows_records h.options) then RefusesSend NotAllowed
    else (if is_some (asked_read h) && not h.cancelling
    then Sends (record { options = h.options; kept = h.kept; cancelling = true }) (empty_record 0 CancelInvite)
    else RefusesSend NoReadToCancel)

-- what the host end does at a request: a send of Cancel Invite is a cancel
abbrev pub host_requests : HostEndState → HostRequest → SendReaction
host_requests h (Send CancelInvite body) = host_cancel h
host_requests h (Send opcode body) = host_send h opcode body
host_requests h Cancel = host_cancel h
