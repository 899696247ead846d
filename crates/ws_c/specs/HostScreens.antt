-- The screen that a host's end keeps, as C sees it

use Rattle.ws_nego.specs.Host.{host_allows_records}
use Rattle.ws_end.specs.Ends.{refused_byte}
use Rattle.ws_end.specs.host_end.HostReached.{HostParts}
use Rattle.ws_c.specs.declared.state_told.StateTold.{StateTold}
use Rattle.ws_c.specs.Calls.{beside_screen, state_of_screen}

-- What is told of the screen that a host's end keeps, but for its cells and fields. A host carries out no records, hears
-- no alarm and has no row of an error, and the pending read is the one that it asks for.
abbrev pub host_state_told : HostParts → StateTold
host_state_told h = state_of_screen h.reacts.screen
    (beside_screen 0 0 (refused_byte h.ended) (host_allows_records h.reacts.options) 0)
