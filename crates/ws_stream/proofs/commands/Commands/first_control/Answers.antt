use Rattle.std.proofs.Common.{[], ◌∷◌, refl, arith}
use Rattle.ws_stream.specs.Machine.{control_byte}
use Rattle.ws_stream.proofs.Unfinished.{waits, control_goes_on}
use Rattle.ws_stream.proofs.commands.Commands.first_control.Goals as goal

pub returns : goal.returns
returns c = waits (4 ∷ control_byte c.args.control ∷ []) c.args.byte c.wait_for.ensures refl
    (control_goes_on _ c.args.control c.args.byte (omega arith))
