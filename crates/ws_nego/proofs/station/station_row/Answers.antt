use Rattle.std.proofs.Common.{arith}
use Rattle.std.proofs.lemmas.Grind.{common_steps}
use Rattle.ws_nego.proofs.station.station_row.Goals as goal

pub returns-in-Do-true : goal.returns-in-Do-true
returns-in-Do-true c = grind (arith, common_steps)
