use Rattle.std.proofs.Common.{refl}
use Rattle.ws_stream.proofs.commands.Commands.take.Goals as goal

pub begin-requires : goal.begin-requires
begin-requires g c = rw c.in-Begin.is refl

pub returns-in-Begin : goal.returns-in-Begin
returns-in-Begin g c = rw c.in-Begin.is c.begin.ensures
