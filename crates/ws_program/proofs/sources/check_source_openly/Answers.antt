use Rattle.ws_program.proofs.SourceAnswers.{check_last}
use Rattle.ws_program.proofs.sources.check_source_openly.Goals as goal

pub returns : goal.returns
returns g c =
    check_last g.S.Sink.writer c.args.cut c.args.from c.args.sink.now c.check_sender-checked.new.sink c.requires.empty
    c.hand_on_last.new.sink.sink c.args.streams.output _ _ c.check_sender-checked.result c.hand_on_last.result
    (rw c.of_program.ensures at c.hand_on_last.ensures.done) c.check_sender-checked.ensures
