use Rattle.ws_program.proofs.SourceAnswers.{show_last}
use Rattle.ws_program.proofs.sources.show_source_openly.Goals as goal

pub returns : goal.returns
returns g c =
    show_last g.R.Source.reader c.args.source.now c.show_sender-shown.new.source _ g.S.Sink.writer
    c.args.sink.now c.show_sender-shown.new.sink c.requires.empty c.hand_on_last.new.sink.sink c.args.streams.output
    c.show_sender-shown.result c.hand_on_last.result (rw c.of_program.ensures at c.hand_on_last.ensures.done)
    c.show_sender-shown.ensures
