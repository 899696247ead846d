use Rattle.std.specs.Prelude.{Ok, Err}
use Rattle.std.proofs.lemmas.Result.{err_from_is_err_and}
use Rattle.ws_program.specs.Answering.{sent_printing}
use Rattle.ws_program.specs.StreamBytes.{held_bytes}
use Rattle.ws_program.proofs.Printings.{bytes_printed}
use Rattle.ws_program.proofs.telling.tell_input.Goals as goal

pub returns-in_err-tell_sent : goal.returns-in_err-tell_sent
returns-in_err-tell_sent g c =
    let p = err_from_is_err_and c.from_residual-in_err-tell_sent.result c.from_residual-in_err-tell_sent.ensures.1 in
    rw (p.1, p.2) (bytes_printed g.S.Sink.writer c.args.sink.now c.tell_sent.new.sink c.args.form
    (sent_printing c.args.from c.args.telling) c.args.input.now
    (held_bytes c.in_ok-bytes.bytes) c.as_slice.result.now c.in_ok-bytes.ensures.ok c.as_slice.ensures
    (Err c.in_err-tell_sent.field-0.0) c.in_err-tell_sent.ensures)

pub returns : goal.returns
returns g c = bytes_printed g.S.Sink.writer c.args.sink.now c.tell_sent.new.sink c.args.form
    (sent_printing c.args.from c.args.telling) c.args.input.now
    (held_bytes c.in_ok-bytes.bytes) c.as_slice.result.now c.in_ok-bytes.ensures.ok c.as_slice.ensures
    (Ok c.in_ok-tell_sent.field-0) c.in_ok-tell_sent.ensures
