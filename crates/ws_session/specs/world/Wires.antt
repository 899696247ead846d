-- The bytes between the ends of a session, and what they do where they arrive

use Rattle.std.specs.Prelude.{◌≡◌, ℕ, ◌+◌, ◌^◌, ◌<◌, List, [], ◌∷◌, ◌++◌, Option, Some, flat_map, length, take, drop}
use Rattle.ws_code.specs.declared.reason.Reason.{Reason}
use Rattle.ws_end.specs.declared.refusal.Refusal.{Refusal}
use Rattle.ws_end.specs.declared.refusal.Refusal.TheVariants.{At, Memory}
use Rattle.ws_end.specs.declared.end_step.Applied.{Applied}
use Rattle.ws_end.specs.declared.host_end.host_event.HostEvent.{HostEvent}
use Rattle.ws_session.specs.declared.world.Event.{Event}
use Rattle.ws_session.specs.declared.world.Event.TheVariants.{Host, StationRefused, HostRefused}
use Rattle.ws_end.specs.Behaviour.{Behaviour}
use Rattle.ws_session.specs.world.Through.{Through}

-- all that one end has written for the other, and how many bytes of it have arrived
pub record WireParts : Type 0 where
  pub bytes : List ℕ
  pub at : ℕ

-- An end of a session where bytes come to it: what was written for it, and how much of that has come; what it has
-- written itself; and what was told.
pub record AtEnd (E : Type 0) : Type 0 where
  pub end : E
  pub from : WireParts
  pub to : WireParts
  pub events : List Event

-- such an end, part by part
abbrev pub at_end : {E : Type 0} → E → WireParts → WireParts → List Event → AtEnd E
at_end end from to events = record { end = end; from = from; to = to; events = events }

-- the end hasn't stopped for want of memory
abbrev pub HasMemory : Option Refusal → Type 0
HasMemory (Some Memory) = ⊥
HasMemory why = Unit {0}

-- what a session tells of an end: what the end tells, and a byte that it refuses
pub record Telling (EndEvent : Type 0) : Type 0 where
  pub tells : EndEvent → List Event
  pub refusal : ℕ → Reason → Event

-- of a station, a refusal alone
abbrev pub station_telling : Telling Applied
station_telling = record { tells = λ applied. []; refusal = λ place reason. StationRefused place reason }

-- of a host end, its events and a refusal
abbrev pub host_telling : Telling HostEvent
host_telling = record { tells = λ event. Host event ∷ []; refusal = λ place reason. HostRefused place reason }

module _ {E Request EndEvent : Type 0} (behaviour : Behaviour E Request EndEvent) (telling : Telling EndEvent) where
  -- what a report tells of it
  abbrev pub reported : List EndEvent → Option Refusal → List Event
  reported end_events (Some (At place reason)) = flat_map telling.tells end_events ++ telling.refusal place reason ∷ []
  reported end_events why = flat_map telling.tells end_events

  -- Bytes come: the end goes on, or refuses one of them. One that has refused a byte stays as it is.
  pub record Comes (old : E) (bytes : List ℕ) (new : E) (written : List ℕ) (events : List Event) : Type 0 where
    pub end_events : List EndEvent
    pub why : Option Refusal
    pub through : Through behaviour old bytes written end_events why new
    pub reports : events ≡ reported end_events why
    pub has_memory : HasMemory why
    pub stays : behaviour.over old → (new ≡ old) × (written ≡ []) × (events ≡ [])

  -- bytes came to it, and what it wrote is on its way
  pub record HasCome (old : E) (bytes : List ℕ) (new : E) (to to' : WireParts)
      (end_events end_events' : List Event) : Type 0 where
    pub written : List ℕ
    pub events : List Event
    pub comes : Comes old bytes new written events
    pub to_is : to' ≡ record to { bytes = to.bytes ++ written }
    pub told_is : end_events' ≡ end_events ++ events

  -- so many of the bytes in flight have come to an end, or all where there were fewer
  pub record AreDelivered (old : AtEnd E) (count : ℕ) (new : AtEnd E) : Type 0 where
    pub bytes : List ℕ
    pub first : bytes ≡ take count (drop old.from.at old.from.bytes)
    pub few : length old.from.bytes + 1 < 2 ^ 64
    pub come : HasCome old.end bytes new.end old.to new.to old.events new.events
    pub open come use *
    pub from_is : new.from ≡ record old.from { at = old.from.at + length bytes }
