use Rattle.std.proofs.Common.{inl, inr, refl}
use Rattle.std.proofs.lemmas.Result.{err_from_is_err_and}
use Rattle.ws_program.proofs.file_checks.check_one.Goals as goal

pub returns-then-not-all-clause-checked : goal.returns-then-not-all-clause-checked
returns-then-not-all-clause-checked g c = rw c.if-not-all.true c.check_named.ensures.checked

pub returns-in_err-input-clause-checked : goal.returns-in_err-input-clause-checked
returns-in_err-input-clause-checked g c =
    let p = err_from_is_err_and c.from_residual.result c.from_residual.ensures.1 in
    rw (p.1, p.2, c.if-not-all.false) (inl (refl, c.in_err-input.ensures))

pub returns-clause-checked : goal.returns-clause-checked
returns-clause-checked g c = rw c.if-not-all.false (inr (c.as_slice.result.now, c.answer_openly.ensures.done))
