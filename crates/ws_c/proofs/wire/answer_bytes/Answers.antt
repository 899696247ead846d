use Rattle.std.proofs.Common.{◌∙◌}
use Rattle.ws_c.proofs.WireLaws.{answer_written}
use Rattle.ws_c.proofs.wire.answer_bytes.Goals as goal

pub returns : goal.returns
returns c =
    let written = c.write_answer-written in
    c.sink.view_is
    ∙ answer_written c.args.answer.now _ _ written.result c.new.ensures written.ensures.short written.ensures.ok
    written.ensures.err
