use Rattle.std.proofs.Common.{arith}
use Rattle.std.proofs.lemmas.Grind.{common_steps}
use Rattle.ws_nego.proofs.station.StationOptions.records_allowed.Goals as goal

pub returns-then-self-3 : goal.returns-then-self-3
returns-then-self-3 c = grind (arith, common_steps)
