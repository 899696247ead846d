use Rattle.std.proofs.Common.{inr}
use Rattle.std.proofs.lemmas.Result.{err_from_is_err_and, IfErr-weaker, IfOk-weaker}
use Rattle.ws_program.proofs.RawRuns.{raw_done, raw_told}
use Rattle.ws_program.specs.declared.words.command_line.InputAsked.TheVariants.{Show}
use Rattle.ws_program.specs.declared.words.command_line.StreamForm.TheVariants.{Raw}
use Rattle.ws_program.proofs.running.run_other.Goals as goal

pub returns-in_err-show_file-clause-fault : goal.returns-in_err-show_file-clause-fault
returns-in_err-show_file-clause-fault g c =
    let arm = c.in-Show in
    let p = err_from_is_err_and c.from_residual.result c.from_residual.ensures.1 in
    rw (p.1, arm.is, c.in-Raw.is) (raw_told g.S.Sink.writer c.args.sink.now.sink c.show_file.new.sink.sink
    c.args.streams (Show arm.file Raw arm.from arm.look) c.in_err-show_file.field-0.0 p.0 (λ input. p.2)
    c.in_err-show_file.ensures p.2)

pub returns-in-Raw-clause-done : goal.returns-in-Raw-clause-done
returns-in-Raw-clause-done g c =
    let arm = c.in-Show in
    rw (arm.is, c.in-Raw.is) (raw_done g.S.Sink.writer c.args.sink.now.sink c.show_file.new.sink.sink
    c.args.streams (Show arm.file Raw arm.from arm.look) c.in_ok-show_file.field-0 c.in_ok-show_file.ensures)

pub returns-clause-done : goal.returns-clause-done
returns-clause-done g c = IfOk-weaker c.with_cause.result _ _
    (λ accepted e. (c.as_slice-text.result.now, rw e at c.answer_openly-outcome.ensures.done)) c.with_cause.ensures.done

pub returns-clause-fault : goal.returns-clause-fault
returns-clause-fault g c = IfErr-weaker c.with_cause.result _ _ (λ fault t.
    let p = err_from_is_err_and c.answer_openly-outcome.result t in
    inr (p.0, (c.as_slice-text.result.now, rw p.1 at c.answer_openly-outcome.ensures.done, p.2)))
    c.with_cause.ensures.fault
