use Rattle.ws_extended.proofs.StateLaws.{profile_acts, profile_faults}
use Rattle.ws_extended.proofs.laws.profile_acts_alike.Goals as goal

pub returns-clause-after : goal.returns-clause-after
returns-clause-after c = profile_acts

pub returns-clause-refused : goal.returns-clause-refused
returns-clause-refused c = profile_faults
