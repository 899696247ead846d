use Rattle.ws_identity.proofs.Sessions.{told_once}
use Rattle.ws_identity.proofs.environ.names_are_told_once.Goals as goal

pub returns : goal.returns
returns c = told_once
