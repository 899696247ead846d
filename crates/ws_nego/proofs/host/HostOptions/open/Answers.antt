use Rattle.std.proofs.Common.{arith}
use Rattle.std.proofs.lemmas.Grind.{common_steps}
use Rattle.ws_nego.proofs.host.HostOptions.open.Goals as goal

pub returns-clause-table : goal.returns-clause-table
returns-clause-table c = grind (arith, common_steps)
