use Rattle.ws_nego.proofs.Stages.{agrees, at_most_twelve, not_refused}
use Rattle.ws_nego.proofs.exchange.exchanges_agree.Goals as goal

pub returns-clause-agree : goal.returns-clause-agree
returns-clause-agree c = agrees

pub returns-clause-twelve : goal.returns-clause-twelve
returns-clause-twelve c = at_most_twelve

pub returns-clause-none_refused : goal.returns-clause-none_refused
returns-clause-none_refused c = not_refused
