use Rattle.ws_lasting.proofs.Common.{[], holds_nothing}
use Rattle.ws_lasting.proofs.AsStation.{as_station}
use Rattle.ws_lasting.proofs.laws.lasts_as_station.Goals as goal

pub returns : goal.returns
returns g c = λ state acts written told led. (
    let rules = g.D.Commands.Code.rules in
    let l = as_station rules g.D.StationDisplay.does g.met.D.Commands.Code.prefix_free g.met.D.Commands.Code.begins
    acts [] [] state [] [] (holds_nothing rules) led.happened led.happen led.taken in
    (l.0, rw (led.wrote, led.tells) l.1))
