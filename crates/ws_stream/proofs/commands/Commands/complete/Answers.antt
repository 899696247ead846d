use Rattle.std.proofs.Common.{refl}
use Rattle.ws_code.proofs.RunLaws.{same_reading}
use Rattle.ws_stream.proofs.commands.Commands.complete.Goals as goal

pub returns : goal.returns
returns g c = c.hand_over.ensures _ (same_reading _ _ _ _ c.after-self.ensures refl)
