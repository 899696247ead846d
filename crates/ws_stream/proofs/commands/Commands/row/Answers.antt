use Rattle.std.proofs.Common.{[], ◌∷◌, refl, arith}
use Rattle.ws_stream.specs.Machine.{order_byte}
use Rattle.ws_stream.proofs.Unfinished.{waits, order_allowed}
use Rattle.ws_stream.proofs.UnfinishedAddress.{row_goes_on, address_code}
use Rattle.ws_stream.proofs.commands.Commands.row.Goals as goal

pub returns : goal.returns
returns c =
    let o = c.args.order in
    let allowed = order_allowed c.args.self.now.place (order_byte o) [] (address_code o).no_command c.requires in
    waits (order_byte o ∷ []) c.args.byte c.wait_for.ensures refl
    (row_goes_on _ o c.args.byte allowed (omega arith) (omega arith))
