use Rattle.ws_entry.proofs.NoRules as Laws
use Rattle.ws_entry.proofs.laws.asks_no_more.Goals as goal

pub returns-clause-same : goal.returns-clause-same
returns-clause-same c = Laws.same

pub returns-clause-alone : goal.returns-clause-alone
returns-clause-alone c = Laws.alone

pub returns-clause-typed : goal.returns-clause-typed
returns-clause-typed c = Laws.typed
