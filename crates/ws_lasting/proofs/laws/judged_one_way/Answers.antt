use Rattle.ws_lasting.proofs.Judging.{judged_one_way}
use Rattle.ws_lasting.proofs.laws.judged_one_way.Goals as goal

pub returns : goal.returns
returns g c = judged_one_way g.D.Commands.Code.rules g.D.StationDisplay.does g.met.D.Commands.Code.prefix_free
    g.met.D.Commands.Code.begins g.met.D.Commands.Code.bytes
