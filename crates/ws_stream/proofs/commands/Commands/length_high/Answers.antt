use Rattle.std.proofs.Common.{◌++◌, [], ◌∷◌, arith}
use Rattle.ws_stream.specs.Machine.{front_bytes}
use Rattle.ws_stream.proofs.Unfinished.{waits}
use Rattle.ws_stream.proofs.UnfinishedField.{length_begins}
use Rattle.ws_stream.proofs.commands.Commands.length_high.Goals as goal

pub returns : goal.returns
returns c =
    let found = length_begins c.args.self.now.place c.args.format c.args.self.now.controls c.args.attribute c.args.byte
    c.requires.front c.requires.attribute (omega arith) c.requires.begun in
    waits (0x1D ∷ front_bytes c.args.format c.args.self.now.controls ++ c.args.attribute ∷ []) c.args.byte
    c.wait_for.ensures found.0 found.1
