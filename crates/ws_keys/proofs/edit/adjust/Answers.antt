use Rattle.std.proofs.Common.{arith}
use Rattle.std.proofs.lemmas.Grind.{common_steps}
use Rattle.ws_keys.proofs.edit.adjust.Goals as goal

pub returns-in-Some-RightBlank : goal.returns-in-Some-RightBlank
returns-in-Some-RightBlank c = grind (arith, common_steps)
