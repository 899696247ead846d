use Rattle.ws_program.proofs.RawRuns.{raw_shown}
use Rattle.ws_program.proofs.input.show_file.Goals as goal

pub returns-in_ok-open-in-Some : goal.returns-in_ok-open-in-Some
returns-in_ok-open-in-Some g c =
    raw_shown g.S.Sink.writer c.args.sink.now.sink c.show_source_openly.new.sink.sink c.args.streams c.args.file
    c.args.from c.args.look _ _ _ c.show_source_openly.result c.show_source_openly.ensures

pub returns-in-None : goal.returns-in-None
returns-in-None g c =
    raw_shown g.S.Sink.writer c.args.sink.now.sink c.show_source_openly-in-None.new.sink.sink c.args.streams c.args.file
    c.args.from c.args.look _ _ _ c.show_source_openly-in-None.result c.show_source_openly-in-None.ensures
