use Rattle.ws_extended.proofs.AnswerBodies.{told_body, told_spelled}
use Rattle.ws_extended.proofs.answer_laws.told_is_body.Goals as goal

pub returns-clause-body : goal.returns-clause-body
returns-clause-body c = told_body

pub returns-clause-spelled : goal.returns-clause-spelled
returns-clause-spelled c = told_spelled
