-- The transitions of both ends: what each does at an item that arrives and at what its caller does (RFC 1205, 4777).

use Rattle.std.specs.Prelude.{◌≡◌, ◌+◌, ◌^◌, ◌<◌, List, length, true}
use Rattle.ws_record.specs.declared.record.Item.{Item}
use Rattle.ws_stream.specs.declared.answer_part.AnswerPart.{AnswerPart}
use Rattle.ws_stream.specs.declared.element.Element.{Element}
use Rattle.ws_keys.specs.declared.key.Key.{Key}
use Rattle.ws_end.specs.declared.end_step.Applied.{Applied}
use Rattle.ws_end.specs.declared.end_step.HostRequest.{HostRequest}
use Rattle.ws_end.specs.declared.host_end.host_event.HostEvent.{HostEvent}
use Rattle.ws_end.specs.declared.host_end.send_fault.SendFault.{SendFault}
use Rattle.ws_end.specs.declared.host_end.send_fault.SendFault.TheVariants.{Failed as SendFailed}
use Rattle.ws_end.specs.Acts.{Doing, Transitions}
use Rattle.ws_end.specs.Reaction.{Reaction}
use Rattle.ws_end.specs.station.StationEndState.{StationEndState, profile}
use Rattle.ws_end.specs.station.StationReacting.{at_item_on, transitions_on}
use Rattle.ws_end.specs.host_end.HostEndState.{HostEndState, host_requests, RefusesSend}
use Rattle.ws_end.specs.driver.Driven.{TakesNoMore, transitions_of}
use Rattle.ws_end.specs.host_end.HostReached.{AtHost, takes_memory}
use Rattle.ws_end.specs.host_end.HostReacting.{HostParts, host_driving}

-- The station's caller presses keys. It tells each record that it has applied.

-- what the station does at an item: it goes on as it reacts, and a refused one does nothing
abbrev pub station_at_item : StationEndState → Item Element → Reaction StationEndState (List (Item AnswerPart))
    → Doing StationEndState AnswerPart Applied
station_at_item = at_item_on profile

-- the transitions of a station: what it does at items and keys, and which items it takes
abbrev pub station_transitions : Transitions StationEndState Element AnswerPart Key Applied
station_transitions = transitions_on profile

-- The host end's caller sends records and cancels. It tells its events.

-- the transitions of a host end: what it does at items and requests, and which items it takes
abbrev pub host_transitions : Transitions HostEndState AnswerPart Element HostRequest HostEvent
host_transitions = transitions_of host_driving

-- the host end refuses the request, for this reason, by all that came and was sent before, or since it is shut
pub record IsSendRefusal (host : HostParts) (request : HostRequest) (fault : SendFault) : Type 0 where
  pub led : AtHost host (λ bytes items state. length bytes + 1 < 2 ^ 64 → host_requests state request
      ≡ RefusesSend fault)
  pub shut : TakesNoMore host → fault ≡ SendFailed

-- the host end has no reason to refuse the request, and isn't shut
pub record IsSendTaken (host : HostParts) (request : HostRequest) : Type 0 where
  pub led : AtHost host (λ bytes items state. length bytes + 1 < 2 ^ 64
      → (fault : SendFault) → host_requests state request ≡ RefusesSend fault → ⊥)
  pub works : TakesNoMore host → ⊥

-- memory may be wanting for a record that the host end has no reason to refuse, and never for a cancel
abbrev pub IsSendWanting : HostParts → HostRequest → Type 0
IsSendWanting host request = IsSendTaken host request × (takes_memory request ≡ true)
