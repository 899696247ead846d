use Rattle.std.proofs.Common.{arith}
use Rattle.std.proofs.lemmas.Grind.{common_steps}
use Rattle.ws_code.proofs.reason.Reason.text.Goals as goal

pub returns-in-FieldPastEnd : goal.returns-in-FieldPastEnd
returns-in-FieldPastEnd c = grind (arith, common_steps)
