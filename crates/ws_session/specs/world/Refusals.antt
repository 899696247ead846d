-- The refusals among a session's events.

use Rattle.std.specs.Prelude.{List, Bool, true, false, filter}
use Rattle.ws_session.specs.declared.world.Event.{Event}
use Rattle.ws_session.specs.declared.world.Event.TheVariants.{StationRefused, HostRefused}

-- the event is that an end has refused a byte
abbrev pub is_refusal : Event → Bool
is_refusal (StationRefused place reason) = true
is_refusal (HostRefused place reason) = true
is_refusal event = false

-- the refusals of bytes among the events, in order
abbrev pub refusals_in : List Event → List Event
refusals_in events = filter is_refusal events
