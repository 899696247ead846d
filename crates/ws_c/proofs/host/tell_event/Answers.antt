use Rattle.std.proofs.Common.{arith}
use Rattle.std.proofs.lemmas.Grind.{common_steps}
use Rattle.ws_c.proofs.host.tell_event.Goals as goal

pub returns-in-Some-SystemRequest-clause-told : goal.returns-in-Some-SystemRequest-clause-told
returns-in-Some-SystemRequest-clause-told c = grind (arith, common_steps)
