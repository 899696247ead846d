use Rattle.std.proofs.Common.{arith}
use Rattle.std.proofs.lemmas.Grind.{common_steps}
use Rattle.ws_code.proofs.format_word.Ffw.with_modified.Goals as goal

pub invariant_of-result : goal.invariant_of-result
invariant_of-result c = grind (arith, common_steps)

pub returns-else-on : goal.returns-else-on
returns-else-on c = grind (arith, common_steps)
