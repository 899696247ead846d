-- How an end of a session behaves, as whoever attaches it to devices or to a wire sees it.

use Rattle.ws_keys.specs.declared.key.Key.{Key}
use Rattle.ws_end.specs.declared.end_step.Applied.{Applied}
use Rattle.ws_end.specs.declared.end_step.HostRequest.{HostRequest}
use Rattle.ws_end.specs.declared.host_end.host_event.HostEvent.{HostEvent}
use Rattle.ws_end.specs.Behaviour.{Behaviour}
use Rattle.ws_end.specs.driver.DriverBehaviour.{driver_behaviour}
use Rattle.ws_end.specs.host_end.HostReacting.{HostParts, host_driving}
use Rattle.ws_end.specs.station.StationReached.{StationParts}
use Rattle.ws_end.specs.station.Displays.{OnDisplay}
use Rattle.ws_end.specs.station.StationEndState.{on_profile}
use Rattle.ws_end.specs.station.Stations.{StationOf, station_driving}

-- a station on any display
abbrev pub station_behaviour : (on : OnDisplay) → Behaviour (StationOf on) on.Pressed Applied
station_behaviour on = driver_behaviour (station_driving on)

-- a station of the profile
abbrev pub profile_behaviour : Behaviour StationParts Key Applied
profile_behaviour = station_behaviour on_profile

-- a host end
abbrev pub host_behaviour : Behaviour HostParts HostRequest HostEvent
host_behaviour = driver_behaviour host_driving
