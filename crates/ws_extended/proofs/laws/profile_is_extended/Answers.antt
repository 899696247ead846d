use Rattle.ws_extended.proofs.ProfileBodies.{body_of_profile, profile_body, profile_spelled}
use Rattle.ws_extended.proofs.laws.profile_is_extended.Goals as goal

pub returns-clause-body : goal.returns-clause-body
returns-clause-body c = profile_body

pub returns-clause-only : goal.returns-clause-only
returns-clause-only c = body_of_profile

pub returns-clause-spelled : goal.returns-clause-spelled
returns-clause-spelled c = profile_spelled
