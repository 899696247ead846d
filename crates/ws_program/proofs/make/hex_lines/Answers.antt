use Rattle.std.proofs.Common.{arith}
use Rattle.std.proofs.lemmas.Grind.{common_steps}
use Rattle.ws_program.proofs.make.hex_lines.Goals as goal

pub returns-in_err-bytes-clause-ok : goal.returns-in_err-bytes-clause-ok
returns-in_err-bytes-clause-ok g c = grind (arith, common_steps)

pub returns-in_err-bytes-clause-fault : goal.returns-in_err-bytes-clause-fault
returns-in_err-bytes-clause-fault g c = grind (arith, common_steps)

pub returns-in_err-digits-clause-ok : goal.returns-in_err-digits-clause-ok
returns-in_err-digits-clause-ok g c = grind (arith, common_steps)

pub returns-in_err-digits-clause-fault : goal.returns-in_err-digits-clause-fault
returns-in_err-digits-clause-fault g c = grind (arith, common_steps)

pub returns-in_err-map_err-clause-ok : goal.returns-in_err-map_err-clause-ok
returns-in_err-map_err-clause-ok g c = grind (arith, common_steps)

pub returns-in_err-map_err-clause-fault : goal.returns-in_err-map_err-clause-fault
returns-in_err-map_err-clause-fault g c = grind (arith, common_steps)

pub returns-in_err-map_err-2-clause-ok : goal.returns-in_err-map_err-2-clause-ok
returns-in_err-map_err-2-clause-ok g c = grind (arith, common_steps)

pub returns-in_err-map_err-2-clause-fault : goal.returns-in_err-map_err-2-clause-fault
returns-in_err-map_err-2-clause-fault g c = grind (arith, common_steps)

pub loop-item-preserved : goal.loop-item-preserved
loop-item-preserved g c = grind (arith, common_steps)

pub returns-clause-ok : goal.returns-clause-ok
returns-clause-ok g c = grind (arith, common_steps)

pub returns-clause-fault : goal.returns-clause-fault
returns-clause-fault g c = grind (arith, common_steps)
