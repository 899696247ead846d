use Rattle.std.proofs.lemmas.Result.{err_from_is_err_and}
use Rattle.ws_program.proofs.Pieces.{dialogue_put, dialogue_unput}
use Rattle.ws_program.proofs.traced.put_pieces.Goals as goal

pub returns-in_err-trace_to : goal.returns-in_err-trace_to
returns-in_err-trace_to g c =
    let p = err_from_is_err_and c.from_residual.result c.from_residual.ensures.1 in
    rw (p.1, p.2) (dialogue_unput g.S.Sink.writer c.args.sink.now c.trace_to.new.sink c.args.form c.args.pieces.now
    c.in_err-trace_to.field-0.0 c.in_err-trace_to.ensures.fault)

pub returns : goal.returns
returns g c = dialogue_put g.S.Sink.writer c.args.sink.now c.trace_to.new.sink c.args.form c.args.pieces.now
    c.in_ok-trace_to.field-0 c.in_ok-trace_to.ensures.traced
