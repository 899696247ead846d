-- A request at an end on devices: whether it was done, and what a fault leaves

use Rattle.std.specs.Prelude.{◌≡◌, ◌≢◌, [], ◌∷◌, Bool, true, false, Option, Result, Err, OnOk, OnErr, IfOk, IfErr}
use Rattle.ws_code.specs.Device.{Devices, Writer}
use Rattle.ws_code.specs.declared.fault.Fault.{Fault}
use Rattle.ws_code.specs.declared.fault.Fault.TheVariants.{Failed, Memory, Write}
use Rattle.ws_keys.specs.declared.answer.Answer.{Answer}
use Rattle.ws_end.specs.declared.end_step.Applied.{Applied}
use Rattle.ws_end.specs.declared.end_step.HostRequest.{HostRequest}
use Rattle.ws_end.specs.declared.end_step.Sent.{Sent}
use Rattle.ws_end.specs.declared.attached.acted.Acted.{Acted}
use Rattle.ws_end.specs.declared.attached.acted.Acted.TheVariants.{Done, Refused}
use Rattle.ws_end.specs.declared.host_end.host_event.HostEvent.{HostEvent}
use Rattle.ws_end.specs.declared.host_end.send_fault.SendFault.{SendFault}
use Rattle.ws_end.specs.declared.host_end.send_fault.SendFault.TheVariants.{Memory as NoMemory}
use Rattle.ws_end.specs.declared.station.key_fault.KeyFault.{KeyFault}
use Rattle.ws_end.specs.Acts.{Did}
use Rattle.ws_end.specs.Behaviour.{Behaviour}
use Rattle.ws_end.specs.Behaviours.{host_behaviour, station_behaviour}
use Rattle.ws_end.specs.EndTransitions.{IsSendRefusal, IsSendTaken, IsSendWanting}
use Rattle.ws_end.specs.attached.Attachments.{AttachedParts, HaveLed, IsSendFailure}
use Rattle.ws_end.specs.attached.Written.{HasWritten, HasWrittenPrefix}
use Rattle.ws_end.specs.host_end.HostReached.{HostParts, sent_bytes}
use Rattle.ws_end.specs.station.AnswerSpelling.{sent_by}
use Rattle.ws_end.specs.station.Displays.{OnDisplay}
use Rattle.ws_end.specs.station.StationActs.{IsKeyRefusalOn, IsKeyTakenOn}
use Rattle.ws_end.specs.station.Stations.{StationOf}

-- A request at an end of this behaviour: for which reasons the end refuses it, when it has no reason to, and when
-- memory may be wanting for it.
pub record Judged (E Request Event Why : Type 0) : Type 1 where
  pub behaviour : Behaviour E Request Event
  pub request : Request
  pub refrains : E → Why → Type 0
  pub acts : E → Type 0
  pub wants : E → Type 0

-- a request of those that an end judges so
abbrev pub judged : {E Request Event Why : Type 0} → Behaviour E Request Event → (E → Request → Why → Type 0)
    → (E → Request → Type 0) → (E → Request → Type 0) → Request → Judged E Request Event Why
judged behaviour refrains acts wants request = record {
  behaviour = behaviour;
  request = request;
  refrains = λ e. refrains e request;
  acts = λ e. acts e request;
  wants = λ e. wants e request;
}

-- a key at a station, which takes no memory
abbrev pub key_judged : (on : OnDisplay) → on.Pressed
    → Judged (StationOf on) on.Pressed Applied KeyFault
key_judged on key = record {
  behaviour = station_behaviour on;
  request = key;
  refrains = λ station. IsKeyRefusalOn on station key;
  acts = λ station. IsKeyTakenOn on station key;
  wants = λ station. ⊥;
}

-- a request at a host end
abbrev pub request_judged : HostRequest → Judged HostParts HostRequest HostEvent SendFault
request_judged request = judged host_behaviour IsSendRefusal IsSendTaken IsSendWanting request

-- it was done, and this holds
abbrev pub IfDone : {Why : Type 0} → Acted Why → Type 0 → Type 0
IfDone Done Holds = Holds
IfDone (Refused why) Holds = Unit {0}

-- it was refused, and this holds of the reason
abbrev pub IfRefused : {Why : Type 0} → Acted Why → (Why → Type 0) → Type 0
IfRefused Done Holds = Unit {0}
IfRefused (Refused why) Holds = Holds why

-- it was done
abbrev pub is_done : {Why : Type 0} → Acted Why → Bool
is_done Done = true
is_done (Refused why) = false

-- What a request at an end comes to: what is written of it; or why it is refused, which changes nothing, or memory was
-- wanting for it.
pub record HasDoneRequest {E Request Event : Type 0} (j : Judged E Request Event SendFault) (old new : E)
    (result : Result Sent SendFault) : Type 0 where
  pub done : IfOk result (λ sent. j.behaviour.traces old (Did j.request ∷ []) (sent_bytes sent) [] new)
  pub taken : OnOk result (j.acts old)
  pub refused : IfErr result (λ fault. fault ≢ NoMemory
      → j.refrains old fault × j.behaviour.traces old (Did j.request ∷ []) [] [] new)
  pub wanting : result ≡ Err NoMemory → j.wants old
  pub same : OnErr result (new ≡ old)

-- What a key at an end comes to: what it sends; or why it is refused, which changes nothing.
pub record HasDoneKey {E Request Event : Type 0} (j : Judged E Request Event KeyFault) (old new : E)
    (result : Result (Option Answer) KeyFault) : Type 0 where
  pub done : IfOk result (λ answer. j.behaviour.traces old (Did j.request ∷ []) (sent_by answer) [] new)
  pub taken : OnOk result (j.acts old)
  pub refused : IfErr result (λ fault. j.refrains old fault × j.behaviour.traces old (Did j.request ∷ []) [] [] new)
  pub same : OnErr result (new ≡ old)

-- What a request at an end comes to, and what of it goes into a sink at once: what it writes, or a prefix of that.
pub record WritesRequest {E Request Event Why S : Type 0} (writer : Writer S) (j : Judged E Request Event Why)
    (old new : E) (from to : S) (result : Result (Acted Why) Fault) : Type 0 where
  pub pressed : IfOk result (λ acted. HasWritten j.behaviour writer old new from to (Did j.request ∷ []) [])
  pub refused : IfOk result (λ acted. IfRefused acted (λ why. (new ≡ old) × (to ≡ from)))
  -- which requests are refused, and why, and which are done
  pub reported : IfOk result (λ acted. IfRefused acted (j.refrains old))
  pub taken : IfOk result (λ acted. IfDone acted (j.acts old))
  pub fault : IfErr result (λ fault. (fault ≡ Write)
      × HasWrittenPrefix j.behaviour writer old new from to (Did j.request ∷ []))

-- What a request at an end on devices comes to.
pub record HasActed {E Request Event Why S K : Type 0} (devices : Devices S K) (j : Judged E Request Event Why)
    (from to : AttachedParts E S K) (result : Result (Acted Why) Fault) : Type 0 where
  -- what is written of a request that is done; a refused one changes nothing
  pub done : IfOk result (λ acted. HaveLed j.behaviour devices from to (Did j.request ∷ []) [])
  pub refused : IfOk result (λ acted. IfRefused acted (λ why. to ≡ from))
  -- which requests are refused, and why, which are done, and for which memory is wanting
  pub reported : IfOk result (λ acted. IfRefused acted (j.refrains from.end))
  pub taken : IfOk result (λ acted. IfDone acted (j.acts from.end))
  pub wanting : result ≡ Err Memory → j.wants from.end
  -- what a fault leaves; nothing is read
  pub fault : from.broken ≡ false → IfErr result (IsSendFailure j.behaviour devices from to (Did j.request ∷ []))
  pub waiting : to.waiting ≡ from.waiting
  pub source : to.source ≡ from.source
  -- a broken end goes nowhere, and one that works isn't broken
  pub broken : from.broken ≡ true → (result ≡ Err Failed) × (to ≡ from)
  pub works : OnOk result (to.broken ≡ false)
