use Rattle.ws_nego.proofs.Projection.{dialogue_agrees, dialogue_twelve, dialogue_not_refused}
use Rattle.ws_nego.proofs.exchange.dialogues_agree.Goals as goal

pub returns-clause-agree : goal.returns-clause-agree
returns-clause-agree c = dialogue_agrees

pub returns-clause-twelve : goal.returns-clause-twelve
returns-clause-twelve c = dialogue_twelve

pub returns-clause-none_refused : goal.returns-clause-none_refused
returns-clause-none_refused c = dialogue_not_refused
