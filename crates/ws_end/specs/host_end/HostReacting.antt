-- How a host end reacts to what comes to it and to what its caller does (RFC 1205, 4777)

use Rattle.std.specs.Prelude.{◌≡◌, ℕ, List, [], ◌∷◌, Bool, Result}
use Rattle.std.specs.declared.alloc.Global.{Global}
use Rattle.std.specs.declared.vec.Vec.{Vec}
use Rattle.ws_code.specs.Keep.{list_keeper}
use Rattle.ws_nego.specs.Host.{HostState}
use Rattle.ws_screen.specs.Given.{Gives}
use Rattle.ws_screen.specs.ScreenParts.{ScreenParts}
use Rattle.ws_stream.specs.AnswerParts.{answer_rules}
use Rattle.ws_stream.specs.Elements.{element_rules}
use Rattle.ws_stream.specs.declared.answer_part.AnswerPart.{AnswerPart}
use Rattle.ws_stream.specs.declared.answer_place.AnswerPlace.{AnswerPlace}
use Rattle.ws_stream.specs.declared.element.Element.{Element}
use Rattle.ws_stream.specs.declared.place.Place.{Place}
use Rattle.ws_end.specs.Acts.{Doing, idle}
use Rattle.ws_end.specs.Reaction.{Reaction}
use Rattle.ws_end.specs.declared.driver.halt.Halt.{Halt}
use Rattle.ws_end.specs.declared.end_step.EndStep.{EndStep}
use Rattle.ws_end.specs.declared.end_step.HostRequest.{HostRequest}
use Rattle.ws_end.specs.declared.host_end.host_event.HostEvent.{HostEvent}
use Rattle.ws_end.specs.driver.Driven.{Driven, Driving, driving}
use Rattle.ws_end.specs.driver.Reacting.{ReactingOf, IsReaction}
use Rattle.ws_end.specs.host_end.HostEndState.{HostEndState, HostOutput, SendReaction, RefusesSend, Sends, TellsAnswer}
use Rattle.ws_end.specs.host_end.HostEndState.{host_takes, host_requests}

-- what reacts at a host end: its options, the screen to which it applies what it sends, and whether a cancel is
-- unanswered
pub record HostKept : Type 0 where
  pub options : HostState
  pub screen : ScreenParts
  pub cancelling : Bool

-- what a byte gives: what is written, and what is told
abbrev pub HostStep : Type 0
HostStep = EndStep HostEvent (List ℕ)

-- the options, the screen and the cancel are those of this state
pub record HostStands (host : HostKept) (state : HostEndState) : Type 0 where
  pub options : host.options ≡ state.options
  pub given : Gives state.kept host.screen
  pub cancelling : host.cancelling ≡ state.cancelling

-- a send that is refused has no effect
abbrev pub host_at_send : HostEndState → SendReaction → Doing HostEndState Element HostEvent
host_at_send s (RefusesSend fault) = idle s
host_at_send s (Sends next item) = record { state = next; written = item ∷ []; events = [] }

-- how a host end reacts; memory may be wanting for an answer
abbrev pub host_reacting : ReactingOf HostKept AnswerPart HostRequest HostEvent (List ℕ)
host_reacting = record {
  State = HostEndState;
  Made = HostOutput;
  PlaceV = Place;
  V = Element;
  Shown = ScreenParts;
  out = element_rules;
  takes = host_takes;
  puts = λ item output. output;
  acts = λ state request. host_at_send state (host_requests state request);
  stands = λ host items state. HostStands host state;
  written = λ host reply. reply;
  wants = TellsAnswer;
  shown = λ host. host.screen;
}

-- a host end: what comes to it, how it keeps an open record, and how it reacts
abbrev pub host_driving : Driving HostKept (Vec AnswerPart Global) AnswerPlace AnswerPart HostRequest HostEvent (List ℕ)
host_driving = driving answer_rules (list_keeper (λ units. units.items)) host_reacting

-- what a host end keeps
abbrev pub HostParts : Type 0
HostParts = Driven HostKept (Vec AnswerPart Global) AnswerPlace

-- it reacts so, by the state in which it stands
abbrev pub HostReacts : HostKept → HostKept → (HostEndState → Reaction HostEndState HostOutput) → Result HostStep Halt
    → Type 0
HostReacts old new by result = (state : HostEndState) → HostStands old state
    → IsReaction host_reacting new [] (λ output. output) (by state) result
