-- The host end by the bytes that lead to it, and what a send makes of it (RFC 1205, 4777).

use Rattle.std.specs.Prelude.{◌≡◌, ℕ, ◌+◌, Bool, false, List, [], Result, Err, length, true, ◌<◌, ◌^◌, IsSome}
use Rattle.std.specs.Prelude.{MatchResult, OnErr}
use Rattle.ws_nego.specs.Host.{new_host, after_open}
use Rattle.ws_record.specs.declared.opcode.Opcode.TheVariants.{CancelInvite}
use Rattle.ws_record.specs.declared.record.Item.{Item}
use Rattle.ws_record.specs.Encode.{item_spelling, CanBeEncoded, IsInRange}
use Rattle.ws_stream.specs.Elements.{element_rules}
use Rattle.ws_stream.specs.declared.answer_part.AnswerPart.{AnswerPart}
use Rattle.ws_stream.specs.declared.element.Element.{Element}
use Rattle.ws_end.specs.declared.end_step.HostRequest.{HostRequest}
use Rattle.ws_end.specs.declared.end_step.HostRequest.TheVariants.{Send, Cancel}
use Rattle.ws_end.specs.declared.end_step.Sent.{Sent}
use Rattle.ws_end.specs.declared.end_step.Sent.TheVariants.{Record as OfRecord, Cancel as OfCancel}
use Rattle.ws_end.specs.declared.host_end.send_fault.SendFault.{SendFault}
use Rattle.ws_end.specs.declared.host_end.send_fault.SendFault.TheVariants.{Failed as SendFailed, Memory as SendMemory}
use Rattle.ws_end.specs.driver.Driven.{AtDriver, IsReached}
pub use Rattle.ws_end.specs.host_end.HostReacting.{HostParts, HostStands, HostStep, host_driving}
use Rattle.ws_end.specs.host_end.HostEndState.{HostEndState, host_requests, SendReaction, RefusesSend, Sends}

-- The bytes lead to the host end: they hold these items, none of them is refused, and what it did at them and sent
-- between them left it in this state.
abbrev pub HostReached : HostParts → List ℕ → List (Item AnswerPart) → HostEndState → Type 0
HostReached = IsReached host_driving

-- this holds of whatever led to the host end: the bytes, their items, and the state in which they left it
abbrev pub AtHost : HostParts → (List ℕ → List (Item AnswerPart) → HostEndState → Type 0) → Type 0
AtHost = AtDriver host_driving

-- the state of a host end that hasn't written its opening
abbrev pub unopened_host_end : HostEndState
unopened_host_end = record { options = new_host; kept = []; cancelling = false }

-- the state of a host end once it has written its opening
abbrev pub state_after_open : HostEndState → HostEndState
state_after_open state = record { options = after_open state.options; kept = state.kept; cancelling = state.cancelling }

-- what is sent is the spelling of a record that can be read back, and leads to the host end that has sent it
abbrev pub IsSent : HostParts → List ℕ → List (Item AnswerPart) → SendReaction → List ℕ → Type 0
IsSent new bytes items reaction spelled = (next : HostEndState) × (item : Item Element) × (reaction ≡ Sends next item)
    × (spelled ≡ item_spelling element_rules item) × CanBeEncoded element_rules item × IsInRange item
    × HostReached new bytes items next

-- why nothing is sent; memory is wanting only for a record that would have been sent
abbrev pub IsSendFault : SendReaction → SendFault → Type 0
IsSendFault reaction SendFailed = ⊥
IsSendFault reaction SendMemory = (next : HostEndState) × (item : Item Element) × (reaction ≡ Sends next item)
IsSendFault reaction fault = reaction ≡ RefusesSend fault

-- the bytes of what is sent
abbrev pub sent_bytes : Sent → List ℕ
sent_bytes (OfRecord bytes) = bytes.items
sent_bytes (OfCancel bytes) = bytes.items

-- a request for which memory may be wanting: a send of a record, and no cancel
abbrev pub takes_memory : HostRequest → Bool
takes_memory (Send CancelInvite body) = false
takes_memory (Send opcode body) = true
takes_memory Cancel = false

-- What a request comes to: what goes out, or why nothing does, which changes nothing. Nothing goes out at the greatest
-- count, and after a refusal.
pub record CarriesOut (request : HostRequest) (old new : HostParts) (result : Result Sent SendFault) : Type 0 where
  pub sent : AtHost old (λ bytes items state. length bytes + 1 < 2 ^ 64 → MatchResult result
      (λ sent. IsSent new bytes items (host_requests state request) (sent_bytes sent))
      (IsSendFault (host_requests state request)))
  pub same : OnErr result (new ≡ old)
  pub wanting : result ≡ Err SendMemory → takes_memory request ≡ true
  pub full : old.live.taken + 1 ≡ 2 ^ 64 → result ≡ Err SendFailed
  pub failed : IsSome old.ended → result ≡ Err SendFailed
