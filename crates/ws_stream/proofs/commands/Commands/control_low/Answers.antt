use Rattle.std.specs.List.{list_all}
use Rattle.std.specs.Prelude.{nat_le}
use Rattle.std.proofs.Common.{◌++◌, [], ◌∷◌, arith}
use Rattle.std.proofs.lemmas.Bool.{and_parts, leb-true}
use Rattle.ws_stream.specs.FieldOrder.{is_control}
use Rattle.ws_stream.specs.Machine.{words_bytes}
use Rattle.ws_stream.proofs.Unfinished.{waits}
use Rattle.ws_stream.proofs.UnfinishedField.{follows_byte, control_fits, control_whole}
use Rattle.ws_stream.proofs.commands.Commands.control_low.Goals as goal

pub push-requires : goal.push-requires
push-requires c =
    let w = c.args.format in
    let controls = c.args.self.now.controls in
    let parts = and_parts (nat_le 0x4000 w) (list_all is_control controls) c.requires.words in
    let format = leb-true 0x4000 w parts.0 in
    let follows = follows_byte c.args.self.now.place w controls c.args.high [] format parts.1 c.requires.begun in
    (omega arith, control_fits w controls c.args.high _ (leb-true 0x80 c.args.high c.requires.control) follows)

pub returns : goal.returns
returns c =
    let w = c.args.format in
    let controls = c.args.self.now.controls in
    let parts = and_parts (nat_le 0x4000 w) (list_all is_control controls) c.requires.words in
    let format = leb-true 0x4000 w parts.0 in
    let found = control_whole c.args.self.now.place w controls c.push.new.self c.args.high c.args.byte c.word.result
    format parts.1 (leb-true 0x80 c.args.high c.requires.control) (omega arith) (omega arith)
    (omega (arith, c.word.ensures)) c.push.ensures c.requires.begun in
    waits (0x1D ∷ words_bytes c.args.format c.args.self.now.controls ++ c.args.high ∷ []) c.args.byte c.wait_for.ensures
    found.0 found.1
