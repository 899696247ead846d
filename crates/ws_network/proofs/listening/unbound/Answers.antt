use Rattle.std.proofs.Common.{refl}
use Rattle.ws_network.proofs.listening.unbound.Goals as goal

pub returns-in-Uncategorized : goal.returns-in-Uncategorized
returns-in-Uncategorized g = rw g.in-Uncategorized.is refl
