use Rattle.std.proofs.Common.{false, Option, refl, subst}
use Rattle.ws_end.specs.declared.end_step.Applied.{Applied}
use Rattle.ws_end.specs.station.Displays.{on_display as on}
use Rattle.ws_end.specs.station.Stations.{station_driving}
use Rattle.ws_c.specs.Calls.{crossed}
use Rattle.ws_c.specs.Pushes.{IsPush}
use Rattle.ws_c.proofs.station.push_held.Goals as goal

pub returns : goal.returns
returns g c =
    let p = c.push_all in
    subst (λ (e : Option Applied). IsPush (station_driving (on g.D.Commands.Code.rules g.D.StationDisplay.does)) false e
    c.args.bytes.now (crossed c.args.buffer.now p.new.buffer p.result.0 p.new.told) c.args.held.now p.new.held)
    (p.ensures.plain refl) p.ensures
