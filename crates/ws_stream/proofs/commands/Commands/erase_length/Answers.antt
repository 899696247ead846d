use Rattle.std.proofs.Common.{◌∷◌, arith}
use Rattle.ws_stream.specs.Elements.{row_and_column}
use Rattle.ws_stream.proofs.Unfinished.{waits}
use Rattle.ws_stream.proofs.UnfinishedAddress.{erase_counted}
use Rattle.ws_stream.proofs.commands.Commands.erase_length.Goals as goal

pub returns : goal.returns
returns c =
    let found = erase_counted c.args.self.now.place c.args.to c.args.byte c.clear.new.self c.requires (omega arith)
    (omega arith) c.clear.ensures in
    waits (0x03 ∷ row_and_column c.args.to) c.args.byte c.wait_for.ensures found.0 found.1
