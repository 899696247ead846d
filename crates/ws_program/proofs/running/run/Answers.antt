use Rattle.std.proofs.Common.{refl, inl, inr}
use Rattle.std.proofs.lemmas.Result.{err_from_is_err_and, IfErr-weaker, IfOk-weaker}
use Rattle.ws_program.proofs.running.run.Goals as goal

pub returns-in_err-words-clause-fault : goal.returns-in_err-words-clause-fault
returns-in_err-words-clause-fault g c =
    let p = err_from_is_err_and c.from_residual.result c.from_residual.ensures.1 in
    rw (p.1, p.2) (inl (c.in_err-words.ensures, refl))

pub returns-in_err-task-clause-fault : goal.returns-in_err-task-clause-fault
returns-in_err-task-clause-fault g c =
    let p = err_from_is_err_and c.from_residual-in_err-task.result c.from_residual-in_err-task.ensures.1 in
    rw p.1 (inl (p.2, refl))

pub returns-clause-done : goal.returns-clause-done
returns-clause-done g c =
    IfOk-weaker c.run_task.result _ _ (λ accepted h. (c.in_ok-task.task, h)) c.run_task.ensures.done

pub returns-clause-fault : goal.returns-clause-fault
returns-clause-fault g c =
    IfErr-weaker c.run_task.result _ _ (λ fault h. inr (c.in_ok-task.task, h)) c.run_task.ensures.fault
