use Rattle.std.proofs.Common.{false, None}
use Rattle.ws_end.specs.station.StationEndState.{on_profile}
use Rattle.ws_end.specs.station.Stations.{station_driving}
use Rattle.ws_c.specs.Calls.{crossed}
use Rattle.ws_c.proofs.HeldLaws.{stays_none}
use Rattle.ws_c.proofs.station.push_station.Goals as goal

pub returns : goal.returns
returns c =
    let p = c.push_held-status in
    record {
      pushed = p.ensures;
      brief = stays_none (station_driving on_profile) false None c.args.bytes.now
          (crossed c.args.buffer.now p.new.buffer p.result p.new.told) c.args.held.now p.new.held p.ensures
          c.as_slice-brief.ensures.fits;
    }
