use Rattle.ws_lasting.proofs.Common.{on_display}
use Rattle.ws_lasting.proofs.Others.{others_as_before}
use Rattle.ws_lasting.proofs.laws.others_as_before.Goals as goal

pub returns : goal.returns
returns g c = others_as_before (on_display g.D.Commands.Code.rules g.D.StationDisplay.does)
