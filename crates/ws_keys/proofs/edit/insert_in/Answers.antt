use Rattle.std.proofs.Common.{arith}
use Rattle.std.proofs.lemmas.Grind.{common_steps}
use Rattle.ws_keys.proofs.edit.insert_in.Goals as goal

pub returns-then-is_signed : goal.returns-then-is_signed
returns-then-is_signed c = grind (arith, common_steps)
