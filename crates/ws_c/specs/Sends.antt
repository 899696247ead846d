-- What a host's end sends, as C sees it (RFC 1205, sections 3 and 4; SC30-3533, commands and orders)

use Rattle.std.specs.Prelude.{◌≡◌, ◌≢◌, ℕ, ◌+◌, ◌^◌, ◌<◌, ◌≤◌, List, length, Option, Some, None, Result, Ok, Err, OnErr}
use Rattle.std.specs.Prelude.{IsSome}
use Rattle.std.specs.Prelude.{IfSome, IfNone, MatchResult}
use Rattle.ws_code.specs.Code.{Rules}
use Rattle.ws_code.specs.Reason.{number_of as reason_number}
use Rattle.ws_record.specs.Grammar.{opcode_byte}
use Rattle.ws_record.specs.declared.opcode.Opcode.{Opcode}
use Rattle.ws_record.specs.declared.opcode.Opcode.TheVariants.{CancelInvite}
use Rattle.ws_record.specs.declared.record.Item.{Item}
use Rattle.ws_stream.specs.declared.answer_part.AnswerPart.{AnswerPart}
use Rattle.ws_stream.specs.declared.element.Element.{Element}
use Rattle.ws_end.specs.host_end.HostReached.{HostParts, HostReached, IsSent, IsSendFault}
use Rattle.ws_end.specs.host_end.HostEndState.{HostEndState, RefusesSend, host_send, host_cancel}
use Rattle.ws_end.specs.declared.host_end.send_fault.SendFault.{SendFault}
use Rattle.ws_end.specs.declared.host_end.send_fault.SendFault.TheVariants.{Failed as SendFailed, NotAllowed}
use Rattle.ws_end.specs.declared.host_end.send_fault.SendFault.TheVariants.{ReadOutstanding as IsOutstanding, BadSequence}
use Rattle.ws_end.specs.declared.host_end.send_fault.SendFault.TheVariants.{NoReadToCancel as NoneToCancel}
use Rattle.ws_end.specs.declared.host_end.send_fault.SendFault.TheVariants.{Screen as RefusedByScreen, TooBig as IsTooBig}
use Rattle.ws_end.specs.declared.host_end.send_fault.SendFault.TheVariants.{Memory as SendMemory}
use Rattle.ws_c.specs.declared.host.HeldHost.{HeldHost}
use Rattle.ws_record.specs.declared.body_reader.BodyFault.{BodyFault}
use Rattle.ws_record.specs.declared.body_reader.BodyFault.TheVariants.{Bad, Memory as BodyMemory}
use Rattle.ws_c.specs.declared.machine.Machine.{Machine}
use Rattle.ws_c.specs.declared.status.Status.{Status}
use Rattle.ws_c.specs.declared.status.Status.TheVariants.{Done, Refused, Failed, NoMemory, NoRoom}
use Rattle.ws_c.specs.declared.status.Status.TheVariants.{BadArgument, NotReady, ReadOutstanding, NoReadToCancel}
use Rattle.ws_c.specs.declared.status.Status.TheVariants.{TooBig}
use Rattle.ws_c.specs.declared.told.Told.{Told}
use Rattle.ws_record.specs.Body.{IsBody, IsBodyFault, HasUnitSoFar}
use Rattle.ws_c.specs.Calls.{Crossed, GivesBytes, Returned, TellsOnly, told_length}
use Rattle.ws_c.specs.Held.{HoldsNone, OnHost}

-- the opcode of a byte, other than Cancel Invite, where there is one
pub record IsOpcodeFrom (byte : ℕ) (opcode : Option Opcode) : Type 0 where
  pub some : IfSome opcode (λ o. (opcode_byte o ≡ byte) × (o ≢ CancelInvite))
  pub none : IfNone opcode ((o : Opcode) → opcode_byte o ≡ byte → o ≢ CancelInvite → ⊥)

-- the body that bytes spell, or why none is read; memory is wanting only where a front of them spells a unit
abbrev pub IsReadFrom : {Place U : Type 0} → Rules Place U → List ℕ → Result (List U) BodyFault → Type 0
IsReadFrom rules bytes (Ok body) = IsBody rules bytes body
IsReadFrom rules bytes (Err Bad) = IsBodyFault (IsBody rules bytes) Bad
IsReadFrom rules bytes (Err BodyMemory) = HasUnitSoFar rules bytes

-- what a send at a host's end gives
pub record HostSent (old new : HostParts) (opcode : Opcode) (body : List Element)
    (result : Result (List ℕ) SendFault) : Type 0 where
  pub sent : (bytes : List ℕ) (items : List (Item AnswerPart)) (side : HostEndState) → HostReached old bytes items side
      → length bytes + 1 < 2 ^ 64 → MatchResult result (λ spelled. IsSent new bytes items
      (host_send side opcode body) spelled)
      (IsSendFault (host_send side opcode body))
  pub same : OnErr result (new ≡ old)
  pub full : old.live.taken + 1 ≡ 2 ^ 64 → result ≡ Err SendFailed
  pub failed : IsSome old.ended → result ≡ Err SendFailed

-- what a cancel at a host's end gives
pub record HostCancelled (old new : HostParts) (result : Result (List ℕ) SendFault) : Type 0 where
  pub sent : (bytes : List ℕ) (items : List (Item AnswerPart)) (side : HostEndState) → HostReached old bytes items side
      → length bytes + 1 < 2 ^ 64 → MatchResult result (λ spelled. IsSent new bytes items (host_cancel side) spelled)
      (λ fault. host_cancel side ≡ RefusesSend fault)
  pub same : OnErr result (new ≡ old)
  pub full : old.live.taken + 1 ≡ 2 ^ 64 → result ≡ Err SendFailed
  pub failed : IsSome old.ended → result ≡ Err SendFailed

-- the status of a send's fault
abbrev pub send_status : SendFault → Status
send_status SendFailed = Failed
send_status NotAllowed = NotReady
send_status IsOutstanding = ReadOutstanding
send_status NoneToCancel = NoReadToCancel
send_status BadSequence = BadArgument
send_status (RefusedByScreen reason) = Refused
send_status IsTooBig = TooBig
send_status SendMemory = NoMemory

-- the reason of a send's fault that is the screen's, as a number; 0 where there is none
abbrev pub send_reason : SendFault → ℕ
send_reason (RefusedByScreen reason) = reason_number reason
send_reason fault = 0

-- what a send's fault crosses as
abbrev pub IsSendFaultTold : SendFault → Status → Told → Type 0
IsSendFaultTold fault status told = (status ≡ send_status fault)
    × (told ≡ record { length = 0; place = 0; reason = send_reason fault })

-- what a send crosses as, and the bytes that were sent last before and after it
abbrev pub IsSentTold : Result (List ℕ) SendFault → Status → Told → List ℕ → List ℕ → Type 0
IsSentTold (Ok spelled) status told last sent = (status ≡ Done) × (told ≡ told_length (length spelled))
    × (sent ≡ spelled)
IsSentTold (Err fault) status told last sent = IsSendFaultTold fault status told × (sent ≡ last)

-- what a send of a host's end crosses as
abbrev pub IsSend : Opcode → List Element → Returned Told → HeldHost → HeldHost → Type 0
IsSend opcode body gave old new = (result : Result (List ℕ) SendFault) × HostSent old.held.end new.held.end opcode body result
    × IsSentTold result gave.status gave.told old.sent new.sent
    × (new ≡ record old { held = record old.held { end = new.held.end }; sent = new.sent })

-- nothing is sent: the call has this status, tells nothing, and the handle stays as it was
abbrev pub IsUnsent : Option Machine → Option Machine → Returned Told → Status → Type 0
IsUnsent held now gave status = (gave.status ≡ status) × (now ≡ held) × (gave.told ≡ told_length 0)

-- what a send of the body that was read crosses as, where one was
abbrev pub IsSendFrom : Opcode → Result (List Element) BodyFault → Option Machine → Option Machine → Returned Told
    → Type 0
IsSendFrom opcode (Ok body) held now gave = OnHost held now (IsSend opcode body gave)
    (HoldsNone gave.status (gave.told ≡ told_length 0))
IsSendFrom opcode (Err Bad) held now gave = IsUnsent held now gave BadArgument
IsSendFrom opcode (Err BodyMemory) held now gave = IsUnsent held now gave NoMemory

-- what a send crosses as, by its opcode, where there is one
abbrev pub IsSendGiven : Option Opcode → Result (List Element) BodyFault → Option Machine → Option Machine
    → Returned Told → Type 0
IsSendGiven None body held now gave = IsUnsent held now gave BadArgument
IsSendGiven (Some opcode) body held now gave = IsSendFrom opcode body held now gave

-- what a cancel crosses as
abbrev pub IsCancelTold : Result (List ℕ) SendFault → Crossed Told → Type 0
IsCancelTold (Ok spelled) call = GivesBytes call spelled
IsCancelTold (Err fault) call = IsSendFaultTold fault call.status call.told × (call.after ≡ call.buffer)

-- what a cancel of a host's end crosses as
abbrev pub IsCancel : Crossed Told → HeldHost → HeldHost → Type 0
IsCancel call old new = (result : Result (List ℕ) SendFault) × HostCancelled old.held.end new.held.end result
    × IsCancelTold result call × (new ≡ record old { held = record old.held { end = new.held.end } })

-- what is told where bytes are put into a buffer, if it has room for them
pub record IsFetched (bytes : List ℕ) (call : Crossed Told) : Type 0 where
  pub room : length call.buffer < length bytes → TellsOnly call NoRoom (told_length 0)
  pub fetched : length bytes ≤ length call.buffer → GivesBytes call bytes
