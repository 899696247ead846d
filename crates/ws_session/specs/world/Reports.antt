-- Reports of a session.

use Rattle.std.specs.Prelude.{◌≡◌, [], take, true}
use Rattle.ws_nego.specs.Host.{host_allows_records}
use Rattle.ws_nego.specs.Station.{station_allows_records}
use Rattle.ws_record.specs.Arrived.{arrived}
use Rattle.ws_screen.specs.Formats.{fields}
use Rattle.ws_stream.specs.AnswerParts.{answer_rules}
use Rattle.ws_stream.specs.Elements.{element_rules}
use Rattle.ws_session.specs.declared.world.Report.{Report}
use Rattle.ws_end.specs.station.Alarms.{alarm_count, alarms_of}
use Rattle.ws_end.specs.host_end.HostReached.{HostReached}
use Rattle.ws_end.specs.host_end.HostEndState.{asked_read}
use Rattle.ws_end.specs.station.StationReached.{StationReached}
use Rattle.ws_end.specs.station.StationEndState.{screen_at}
use Rattle.ws_session.specs.world.Session.{Session, down_bytes, up_bytes, to_station, to_host}

-- What is reported of a session, its events, both ends, and the bytes in flight to the station and to the host end: it
-- is that of this world of whole items.
pub record IsReport (r : Report) (w : Session) : Type 0 where
  pub events : r.events ≡ w.events
  pub screen : r.station.reacts.screen.screen ≡ screen_at w.station
  pub alarms : r.station.reacts.screen.alarms ≡ alarm_count (alarms_of w.station.happened)
  pub station_options : r.station.reacts.options ≡ w.station.options
  pub host_options : r.host.reacts.options ≡ w.host.options
  pub fields : r.host.reacts.screen.fields ≡ fields w.host.kept
  pub asked : r.host.reacts.screen.pending ≡ asked_read w.host
  pub to_station : r.to_station ≡ to_station w
  pub to_host : r.to_host ≡ to_host w
  -- each end goes on from there: it has taken the bytes that have arrived, and their items left it on its state
  pub station_reached : StationReached r.station (take w.at_station (down_bytes w))
      (arrived element_rules w.down w.at_station) w.station
  pub host_reached : HostReached r.host (take w.at_host (up_bytes w)) (arrived answer_rules w.up w.at_host) w.host

-- nothing is in flight, and records are allowed at both ends
pub record IsOpened (r : Report) : Type 0 where
  pub to_station : r.to_station ≡ []
  pub to_host : r.to_host ≡ []
  pub at_station : station_allows_records r.station.reacts.options ≡ true
  pub at_host : host_allows_records r.host.reacts.options ≡ true
