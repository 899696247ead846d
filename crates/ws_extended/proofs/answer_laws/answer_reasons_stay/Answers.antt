use Rattle.ws_extended.proofs.AnswerReasons.{answer_taken, same_answer_reason, three_only}
use Rattle.ws_extended.proofs.answer_laws.answer_reasons_stay.Goals as goal

pub returns-clause-taken : goal.returns-clause-taken
returns-clause-taken c = answer_taken

pub returns-clause-same : goal.returns-clause-same
returns-clause-same c = same_answer_reason

pub returns-clause-three : goal.returns-clause-three
returns-clause-three c = three_only
