use Rattle.std.specs.Prelude.{Bool, Option, None, Some, Result, Ok, IsErr}
use Rattle.std.proofs.Common.{◌≡◌, refl, sym, subst}
use mathlib.Core.Bool.{true≢false}
use Rattle.std.proofs.lemmas.Result.{err_from_is_err_and, IfErr-at_err, IfErr-weaker, IfOk-at_ok, IfOk-weaker}
use Rattle.ws_printing.specs.Printouts.{printout}
use Rattle.ws_network.specs.LiveSessions.{HasRunLive}
use Rattle.ws_program.specs.Runs.{HasRunInput, IsFaultOfInput, missing_live}
use Rattle.ws_program.proofs.Findings.{fault_of_checks, has_checked}
use Rattle.ws_program.proofs.running.run_task.Goals as goal

-- a command that was done lacks no stream
no_lack : {W E X : Type 0} (lack : Option W) (outcome : Result Bool E) (accepted : Bool) → outcome ≡ Ok accepted
    → ((why : W) → lack ≡ Some why → IsErr outcome × X) → lack ≡ None
no_lack None outcome accepted e closed = refl
no_lack (Some why) outcome accepted e closed = absurd (true≢false (sym (subst IsErr e (closed why refl).0)))

pub returns-in-Input-clause-done : goal.returns-in-Input-clause-done
returns-in-Input-clause-done g c = rw c.in-Input.is (IfOk-weaker c.told_of.result _ _ (λ accepted e. IfOk-at_ok
    (HasRunInput (printout g.S.Sink.writer c.args.sink.now.sink c.run_input-outcome.new.sink.sink) c.args.streams
    c.in-Input.asked) e c.run_input-outcome.ensures.done) c.told_of.ensures.done)

pub returns-in-Input-clause-fault : goal.returns-in-Input-clause-fault
returns-in-Input-clause-fault g c = rw c.in-Input.is (IfErr-weaker c.told_of.result _ _ (λ fault t.
    let p = err_from_is_err_and c.run_input-outcome.result t in (
      p.0,
      IfErr-at_err (IsFaultOfInput (printout g.S.Sink.writer c.args.sink.now.sink
          c.run_input-outcome.new.sink.sink) c.args.streams c.in-Input.asked) p.1 c.run_input-outcome.ensures.fault,
      p.2,
    ))
    c.told_of.ensures.fault)

pub returns-in-Files-clause-done : goal.returns-in-Files-clause-done
returns-in-Files-clause-done g c = rw c.in-Files.is (IfOk-weaker c.check_files.result _ _
    (has_checked g.S.Sink.writer c.in-Files.checks c.args.sink.now.sink c.check_files.new.sink.sink)
    c.check_files.ensures.done)

pub returns-in-Files-clause-fault : goal.returns-in-Files-clause-fault
returns-in-Files-clause-fault g c = rw c.in-Files.is (IfErr-weaker c.check_files.result _ _
    (fault_of_checks g.S.Sink.writer c.in-Files.checks c.args.sink.now.sink c.check_files.new.sink.sink)
    c.check_files.ensures.fault)

pub returns-in-AllFiles-clause-done : goal.returns-in-AllFiles-clause-done
returns-in-AllFiles-clause-done g c = rw c.in-AllFiles.is c.check_files-in-AllFiles.ensures.done

pub returns-in-AllFiles-clause-fault : goal.returns-in-AllFiles-clause-fault
returns-in-AllFiles-clause-fault g c = rw c.in-AllFiles.is c.check_files-in-AllFiles.ensures.fault

pub returns-in-Print-clause-done : goal.returns-in-Print-clause-done
returns-in-Print-clause-done g c = rw c.in-Print.is c.print_table.ensures.done

pub returns-in-Print-clause-fault : goal.returns-in-Print-clause-fault
returns-in-Print-clause-fault g c = rw c.in-Print.is c.print_table.ensures.fault

pub returns-in-Live-clause-done : goal.returns-in-Live-clause-done
returns-in-Live-clause-done g c = rw c.in-Live.is (IfOk-weaker c.with_file.result _ _ (λ accepted e. (
  no_lack (missing_live c.args.streams c.in-Live.asked) c.run_live-outcome.result accepted e
      c.run_live-outcome.ensures.closed,
  IfOk-at_ok (HasRunLive (printout g.S.Sink.writer c.args.sink.now.sink c.run_live-outcome.new.out.sink)
      c.in-Live.asked) e c.run_live-outcome.ensures.ran,
)) c.with_file.ensures.done)

pub returns-in-Live-clause-fault : goal.returns-in-Live-clause-fault
returns-in-Live-clause-fault g c = rw c.in-Live.is (IfErr-weaker c.with_file.result _ _ (λ fault t.
    let p = err_from_is_err_and c.run_live-outcome.result t in
    (p.0, p.2, λ why lack. (c.run_live-outcome.ensures.closed why lack).1))
    (rw c.script_of-script.ensures at c.with_file.ensures.fault))
