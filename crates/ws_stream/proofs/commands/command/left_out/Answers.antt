use Rattle.std.proofs.Common.{arith}
use Rattle.std.proofs.lemmas.Grind.{common_steps}
use Rattle.ws_stream.proofs.commands.command.left_out.Goals as goal

pub returns-in-35 : goal.returns-in-35
returns-in-35 c = grind (arith, common_steps)
