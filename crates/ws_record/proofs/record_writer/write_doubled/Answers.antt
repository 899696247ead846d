use Rattle.ws_record.proofs.Common.{inl, inr, arith, ◌+◌, get_or, on_ok_weaker, IfErr-weaker, run_rest, run_slice}
use Rattle.ws_record.proofs.Common.{iac_or_not, doubled_plain, doubling_ends, doubling_ends_failed, doubling_fails}
use Rattle.ws_record.proofs.Common.{doubling_iac, doubling_plain, handed_on}
use Rattle.ws_record.proofs.record_writer.write_doubled.Goals as goal
use Rattle.ws_record.proofs.record_writer.write_doubled.Goals.{then-byte+in_ok-write_whole, else-byte}

pub returns-in_err-write_whole-clause-err : goal.returns-in_err-write_whole-clause-err
returns-in_err-write_whole-clause-err g c =
    rw (handed_on c.from_residual.result c.from_residual.ensures.1) (
      c.in_err-write_whole.ensures.err.0,
      doubling_fails _ c.loop-at.invariant c.loop-at-test.true (omega (arith, c.if-byte.true))
          (rw
          (run_slice c.args.bytes.now c.loop-at.start (c.loop-at.at + 1) (omega (arith, c.loop-at.invariant.within)))
          at c.in_err-write_whole.ensures.err.1),
    )

pub loop-at-preserved : goal.loop-at-preserved
loop-at-preserved g c = elim c.if-byte.branch [
  | then-byte+in_ok-write_whole w ↦ rw (w.sink-is, w.start-is) (doubling_iac _ c.loop-at.invariant
      c.loop-at-test.true (omega (arith, w.if-byte.true)) (rw
      (run_slice c.args.bytes.now c.loop-at.start (c.loop-at.at + 1) (omega (arith, c.loop-at.invariant.within)))
      at w.in_ok-write_whole.ensures.ok))
  | else-byte w ↦ rw (w.sink-is, w.start-is) (doubling_plain _ c.loop-at.invariant c.loop-at-test.true
      (elim (iac_or_not (get_or c.args.bytes.now c.loop-at.at 0)) [
        | inl e ↦ absurd (w.if-byte.false e)
        | inr p ↦ doubled_plain _ p.1
      ]))
]

pub returns-clause-ok : goal.returns-clause-ok
returns-clause-ok g c = on_ok_weaker c.write_whole-2.result (λ p. doubling_ends _ c.loop-at.invariant
    c.loop-at-test.false (rw (run_rest c.args.bytes.now c.loop-at.start c.loop-at.at c.loop-at-test.false) at p))
    c.write_whole-2.ensures.ok

pub returns-clause-err : goal.returns-clause-err
returns-clause-err g c =
    IfErr-weaker c.write_whole-2.result _ _ (λ fault p. (
      p.0,
      doubling_ends_failed _ c.loop-at.invariant c.loop-at-test.false
          (rw (run_rest c.args.bytes.now c.loop-at.start c.loop-at.at c.loop-at-test.false) at p.1),
    ))
    c.write_whole-2.ensures.err
