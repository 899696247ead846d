use Rattle.std.proofs.Common.{arith}
use Rattle.std.proofs.lemmas.Grind.{common_steps}
use Rattle.ws_code.proofs.reason.Reason.number.Goals as goal

pub returns-in-BadSub : goal.returns-in-BadSub
returns-in-BadSub c = grind (arith, common_steps)
