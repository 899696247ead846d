use Rattle.ws_program.proofs.RawRuns.{raw_checked}
use Rattle.ws_program.proofs.input.check_file.Goals as goal

pub returns-in_ok-open-in-Some : goal.returns-in_ok-open-in-Some
returns-in_ok-open-in-Some g c =
    raw_checked g.S.Sink.writer c.args.sink.now.sink c.check_source_openly.new.sink.sink c.args.streams c.args.file
    c.args.from c.args.cut _ _ c.check_source_openly.result c.check_source_openly.ensures

pub returns-in-None : goal.returns-in-None
returns-in-None g c =
    raw_checked g.S.Sink.writer c.args.sink.now.sink c.check_source_openly-in-None.new.sink.sink c.args.streams
    c.args.file c.args.from c.args.cut _ _ c.check_source_openly-in-None.result c.check_source_openly-in-None.ensures
