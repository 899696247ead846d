-- A host's end, as C sees it (RFC 1205, sections 3 and 4)

use Rattle.std.specs.Prelude.{◌≡◌, ℕ, List, [], ◌∷◌, Option, Some, None, true}
use Rattle.ws_nego.specs.Host.{opening}
use Rattle.ws_nego.specs.declared.terminal.TerminalType.{TerminalType}
use Rattle.ws_nego.specs.declared.terminal.TerminalType.TheVariants.{Ibm5251Model11, Ibm5291Model1, Ibm5292Model2}
use Rattle.ws_nego.specs.declared.terminal.TerminalType.TheVariants.{Ibm3196ModelA1, Ibm3179Model2}
use Rattle.ws_record.specs.Encode.{plain_spelling}
use Rattle.ws_record.specs.declared.record.Item.TheVariants.{Telnet as TelnetItem}
use Rattle.ws_stream.specs.Elements.{element_rules}
use Rattle.ws_keys.specs.declared.host_answer.HostAnswer.{HostAnswer}
use Rattle.ws_end.specs.host_end.HostReached.{HostReached, host_driving}
use Rattle.ws_end.specs.host_end.HostEndState.{new_host_end}
use Rattle.ws_end.specs.declared.host_end.host_event.HostEvent.{HostEvent}
use Rattle.ws_end.specs.declared.host_end.host_event.HostEvent.TheVariants.{Ready, Answer, Attention, SystemRequest}
use Rattle.ws_end.specs.declared.host_end.host_event.HostEvent.TheVariants.{Cancelled}
use Rattle.ws_c.specs.declared.host.EventTold.{EventTold}
use Rattle.ws_c.specs.declared.host.HeldHost.{HeldHost}
use Rattle.ws_c.specs.declared.machine.Machine.{Machine}
use Rattle.ws_c.specs.declared.machine.Machine.TheVariants.{Host}
use Rattle.ws_c.specs.declared.status.Status.{Status}
use Rattle.ws_c.specs.declared.status.Status.TheVariants.{Done, NoMemory, InUse}
use Rattle.ws_c.specs.declared.told.Told.{Told}
use Rattle.ws_c.specs.declared.told.PushedTold.{PushedTold}
use Rattle.ws_c.specs.Calls.{Crossed, GivesBytes, TellsOnly, crossed, told_length}
use Rattle.ws_c.specs.Held.{Boxed}
use Rattle.ws_c.specs.HeldEnds.{waiting}
use Rattle.ws_c.specs.Pushes.{IsPush}

-- the bytes by which a host asks the station for its terminal type
abbrev pub opening_bytes : List ℕ
opening_bytes = plain_spelling element_rules (TelnetItem opening ∷ [])

-- a host's end that has written its opening and has taken no byte
pub record IsNewHost (host : HeldHost) : Type 0 where
  pub leads : HostReached host.held.end [] [] new_host_end
  pub waits : waiting host_driving host.held ≡ []
  pub unsent : host.sent ≡ []
  pub unanswered : host.answer ≡ None

-- what a new host's end crosses as, by the status, where the handle holds nothing
abbrev pub IsHostMade : Option Machine → Crossed Told → Status → Type 0
IsHostMade now call Done = (host : Boxed HeldHost) × (now ≡ Some (Host host)) × IsNewHost host.value
    × GivesBytes call opening_bytes
IsHostMade now call NoMemory = (now ≡ None) × TellsOnly call NoMemory (told_length 0)
IsHostMade now call status = ⊥

-- what a new host's end crosses as: it is made, and its opening's bytes are given; or the handle and the buffer stay as
-- they are, and nothing is told
abbrev pub IsHostNew : Option Machine → Option Machine → Crossed Told → Type 0
IsHostNew (Some held) now call = (now ≡ Some held) × TellsOnly call InUse (told_length 0)
IsHostNew None now call = IsHostMade now call call.status

-- the number of a terminal
abbrev pub number_of_terminal : TerminalType → ℕ
number_of_terminal Ibm5251Model11 = 1
number_of_terminal Ibm5291Model1 = 2
number_of_terminal Ibm5292Model2 = 3
number_of_terminal Ibm3196ModelA1 = 4
number_of_terminal Ibm3179Model2 = 5

-- what an event crosses as: 0 none, 1 ready, with the terminal, 2 an answer, 3 and 4 the keys Attention and System
-- Request, 5 the cancel's end
abbrev pub event_told : Option HostEvent → EventTold
event_told None = record { kind = 0; terminal = 0 }
event_told (Some (Ready terminal)) = record { kind = 1; terminal = number_of_terminal terminal }
event_told (Some (Answer answer)) = record { kind = 2; terminal = 0 }
event_told (Some Attention) = record { kind = 3; terminal = 0 }
event_told (Some SystemRequest) = record { kind = 4; terminal = 0 }
event_told (Some Cancelled) = record { kind = 5; terminal = 0 }

-- the last answer, after an event
abbrev pub answer_after : Option HostEvent → Option HostAnswer → Option HostAnswer
answer_after (Some (Answer answer)) last = Some answer
answer_after event last = last

-- what a push of bytes tells of a host's end: the counts, with a refusal, and the event
pub record HostTold : Type 0 where
  pub pushed : PushedTold
  pub event : EventTold

-- what a push tells that has these counts and this event
abbrev pub host_told : PushedTold → EventTold → HostTold
host_told pushed event = record { pushed = pushed; event = event }

-- What a push of bytes into a host's end crosses as: it stops where it tells something. Its replies are short, so that
-- none waits.
pub record IsHostPush (bytes : List ℕ) (call : Crossed HostTold) (old new : HeldHost) : Type 0 where
  pub event : Option HostEvent
  pub pushed : IsPush host_driving true event bytes (crossed call.buffer call.after call.status call.told.pushed)
      old.held new.held
  pub brief : waiting host_driving old.held ≡ [] → waiting host_driving new.held ≡ []
  pub event_is : call.told.event ≡ event_told event
  pub same : new ≡ record old { held = new.held; answer = answer_after event old.answer }
