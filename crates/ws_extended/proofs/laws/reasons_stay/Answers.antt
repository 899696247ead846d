use Rattle.ws_extended.proofs.ProfileReasons.{prefix_taken, same_reason, others_only}
use Rattle.ws_extended.proofs.laws.reasons_stay.Goals as goal

pub returns-clause-taken : goal.returns-clause-taken
returns-clause-taken c = prefix_taken

pub returns-clause-same : goal.returns-clause-same
returns-clause-same c = same_reason

pub returns-clause-others : goal.returns-clause-others
returns-clause-others c = others_only
