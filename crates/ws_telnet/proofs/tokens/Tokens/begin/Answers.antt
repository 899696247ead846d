use Rattle.ws_telnet.proofs.Unfinished.{iac_goes_on}
use Rattle.ws_telnet.proofs.tokens.Tokens.begin.Goals as goal

pub returns-clause-more : goal.returns-clause-more
returns-clause-more c = iac_goes_on
