use Rattle.std.proofs.Common.{arith}
use Rattle.std.proofs.lemmas.Grind.{common_steps}
use Rattle.ws_telnet.proofs.token.CommandCode.byte.Goals as goal

pub returns-in-GoAhead : goal.returns-in-GoAhead
returns-in-GoAhead c = grind (arith, common_steps)
