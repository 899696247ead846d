use Rattle.std.proofs.Common.{arith}
use Rattle.std.proofs.lemmas.Grind.{common_steps}
use Rattle.ws_code.proofs.aid.Aid.function.Goals as goal

pub invariant_of-result-in-13-to-24 : goal.invariant_of-result-in-13-to-24
invariant_of-result-in-13-to-24 c = grind (arith, common_steps)

pub returns-in-13-to-24 : goal.returns-in-13-to-24
returns-in-13-to-24 c = grind (arith, common_steps)
