use Rattle.std.proofs.Common.{arith}
use Rattle.std.proofs.lemmas.Grind.{common_steps}
use Rattle.ws_nego.proofs.host.push_request.Goals as goal

pub returns-in-On-clause-items : goal.returns-in-On-clause-items
returns-in-On-clause-items c = grind (arith, common_steps)
