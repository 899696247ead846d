use Rattle.std.proofs.lemmas.Result.{err_from_is_err_and}
use Rattle.ws_program.proofs.RawRuns.{raw_done, raw_told}
use Rattle.ws_program.specs.declared.words.command_line.InputAsked.TheVariants.{Check}
use Rattle.ws_program.specs.declared.words.command_line.StreamForm.TheVariants.{Raw}
use Rattle.ws_program.proofs.running.run_input.Goals as goal

pub returns-in_err-check_file-clause-fault : goal.returns-in_err-check_file-clause-fault
returns-in_err-check_file-clause-fault g c =
    let arm = c.in-Check in
    let p = err_from_is_err_and c.from_residual.result c.from_residual.ensures.1 in
    rw (p.1, arm.is, c.in-Raw.is) (raw_told g.S.Sink.writer c.args.sink.now.sink c.check_file.new.sink.sink
    c.args.streams (Check arm.file Raw arm.cut arm.from) c.in_err-check_file.field-0.0 p.0 (λ input. p.2)
    c.in_err-check_file.ensures p.2)

pub returns-in-Raw-clause-done : goal.returns-in-Raw-clause-done
returns-in-Raw-clause-done g c =
    let arm = c.in-Check in
    rw (arm.is, c.in-Raw.is) (raw_done g.S.Sink.writer c.args.sink.now.sink c.check_file.new.sink.sink
    c.args.streams (Check arm.file Raw arm.cut arm.from) c.in_ok-check_file.field-0 c.in_ok-check_file.ensures)
