use Rattle.std.proofs.Common.{arith}
use Rattle.std.proofs.lemmas.Grind.{common_steps}
use Rattle.ws_stream.proofs.spell.spell.Goals as goal

pub returns-in-Sba : goal.returns-in-Sba
returns-in-Sba c = grind (arith, common_steps)
