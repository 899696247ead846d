use Rattle.std.proofs.Common.{arith}
use Rattle.std.proofs.lemmas.Grind.{common_steps}
use Rattle.ws_nego.proofs.host.HostOptions.records_allowed.Goals as goal

pub returns-then-is_on-3 : goal.returns-then-is_on-3
returns-then-is_on-3 c = grind (arith, common_steps)
