use Rattle.std.proofs.Common.{arith}
use Rattle.std.proofs.lemmas.Grind.{common_steps}
use Rattle.ws_c.proofs.push.tell_push_refusal.Goals as goal

pub returns-in-At-clause-refused : goal.returns-in-At-clause-refused
returns-in-At-clause-refused c = grind (arith, common_steps)
