use Rattle.std.proofs.Common.{◌≡◌, ◌+◌, ◌*◌, [], ◌∷◌, arith, sym, subst}
use Rattle.ws_code.specs.FormatWord.{IsFfw}
use Rattle.ws_stream.proofs.Unfinished.{waits}
use Rattle.ws_stream.proofs.UnfinishedField.{format_whole}
use Rattle.ws_stream.proofs.commands.Commands.format_low.Goals as goal

pub returns-in-Some : goal.returns-in-Some
returns-in-Some c =
    let is : c.in-Some.format ≡ c.args.high * 256 + c.args.byte = omega (arith, c.in-Some.ensures.1, c.word.ensures) in
    let found = format_whole c.args.self.now.place c.args.high c.args.byte c.in-Some.format c.clear.new.self
    c.requires.begun (subst IsFfw (sym c.in-Some.ensures.1) c.in-Some.ensures.0) is (omega arith) c.clear.ensures in
    waits (0x1D ∷ c.args.high ∷ []) c.args.byte c.wait_for.ensures found.0 found.1
