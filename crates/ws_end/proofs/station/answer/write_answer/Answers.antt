use Rattle.std.proofs.Common.{arith}
use Rattle.std.proofs.lemmas.Grind.{common_steps}
use Rattle.ws_end.proofs.station.answer.write_answer.Goals as goal

pub returns-in-Attention-clause-ok : goal.returns-in-Attention-clause-ok
returns-in-Attention-clause-ok c = grind (arith, common_steps)

pub returns-in-Attention-clause-err : goal.returns-in-Attention-clause-err
returns-in-Attention-clause-err c = grind (arith, common_steps)
