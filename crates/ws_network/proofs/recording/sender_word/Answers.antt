use Rattle.std.proofs.Common.{refl}
use Rattle.ws_network.proofs.recording.sender_word.Goals as goal

pub returns-in-Station : goal.returns-in-Station
returns-in-Station g = rw g.in-Station.is refl
