use Rattle.std.proofs.Common.{arith}
use Rattle.std.proofs.lemmas.Grind.{common_steps}
use Rattle.ws_stream.proofs.commands.CommandsCode.after.Goals as goal

pub returns-in-ClearUnit : goal.returns-in-ClearUnit
returns-in-ClearUnit c = grind (arith, common_steps)

pub returns-in-ClearUnit-2 : goal.returns-in-ClearUnit-2
returns-in-ClearUnit-2 c = grind (arith, common_steps)

pub returns-in-ClearUnit-3 : goal.returns-in-ClearUnit-3
returns-in-ClearUnit-3 c = grind (arith, common_steps)

pub returns-in-ClearUnit-4 : goal.returns-in-ClearUnit-4
returns-in-ClearUnit-4 c = grind (arith, common_steps)

pub returns-in-ClearUnit-5 : goal.returns-in-ClearUnit-5
returns-in-ClearUnit-5 c = grind (arith, common_steps)
