use Rattle.std.proofs.Common.{refl, arith}
use Rattle.std.proofs.lemmas.Grind.{common_steps}
use Rattle.ws_telnet.proofs.Unfinished.{sub_begins}
use Rattle.ws_telnet.proofs.tokens.Tokens.after_iac.Goals as goal

pub returns-in-250 : goal.returns-in-250
returns-in-250 c = rw c.in-250.is (refl, sub_begins)

pub returns-in-239 : goal.returns-in-239
returns-in-239 c = grind (arith, common_steps)
