use Rattle.std.proofs.Common.{inl, inr, refl}
use Rattle.std.proofs.Math.Nat.{sub-zero}
use Rattle.std.proofs.lemmas.Result.{err_from_is_err_and}
use Rattle.ws_live.proofs.StrokeRuns.{left_at, runs_left, times_left}
use Rattle.ws_live.proofs.live.pressing.press_stroke.Goals as goal

pub loop-init : goal.loop-init
loop-init g c = (
  λ came to h. c.loop-run.invariant.0 came to
      (rw (runs_left _ _ _ _ _ c.loop-run-test.true c.run-item.is, ← c.from_profile-key.ensures)
      (rw sub-zero at h)),
  c.loop-run.invariant.1,
)

pub returns-in_err-press_key-clause-comes : goal.returns-in_err-press_key-clause-comes
returns-in_err-press_key-clause-comes g c =
    let p = err_from_is_err_and c.from_residual.result c.from_residual.ensures.1 in
    rw (p.1, p.2) (c.loop.invariant.0 _ _ (rw (times_left _ _ _ _ c.loop-test.true)
    (inr (_, c.in_err-press_key.ensures.comes, refl))))

pub loop-preserved : goal.loop-preserved
loop-preserved g c = (
  λ came to h. c.loop.invariant.0 came to
      (rw (times_left _ _ _ _ c.loop-test.true) (inl (_, c.in_ok-press_key.ensures.comes, h))),
  c.in_ok-press_key.ensures.works,
)

pub returns-in_err-press_key-2-clause-comes : goal.returns-in_err-press_key-2-clause-comes
returns-in_err-press_key-2-clause-comes g c =
    let p = err_from_is_err_and c.from_residual-in_err-press_key-2.result c.from_residual-in_err-press_key-2.ensures.1 in
    rw (p.1, p.2) (c.loop-key.invariant.0 _ _ (rw (left_at _ _ _ c.loop-key-test.true c.key-item.is)
    (inr (_, c.in_err-press_key-2.ensures.comes, refl))))

pub loop-key-preserved : goal.loop-key-preserved
loop-key-preserved g c = (
  λ came to h. c.loop-key.invariant.0 came to
      (rw (left_at _ _ _ c.loop-key-test.true c.key-item.is) (inl (_, c.in_ok-press_key-2.ensures.comes, h))),
  c.in_ok-press_key-2.ensures.works,
)
