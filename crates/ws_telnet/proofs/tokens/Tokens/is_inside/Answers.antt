use Rattle.std.proofs.Common.{arith}
use Rattle.std.proofs.lemmas.Grind.{common_steps}
use Rattle.ws_telnet.proofs.tokens.Tokens.is_inside.Goals as goal

pub returns-clause-no : goal.returns-clause-no
returns-clause-no c = grind (arith, common_steps)
