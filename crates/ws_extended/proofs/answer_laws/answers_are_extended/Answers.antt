use Rattle.ws_extended.proofs.AnswerBodies.{answer_body, answer_spelled, body_of_answer}
use Rattle.ws_extended.proofs.answer_laws.answers_are_extended.Goals as goal

pub returns-clause-body : goal.returns-clause-body
returns-clause-body c = answer_body

pub returns-clause-only : goal.returns-clause-only
returns-clause-only c = body_of_answer

pub returns-clause-spelled : goal.returns-clause-spelled
returns-clause-spelled c = answer_spelled
