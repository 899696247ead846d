use Rattle.ws_end.proofs.Common.{◌+◌, ap, drop_all, err_from_is_err_and}
use Rattle.ws_end.proofs.attached.Plays.{pressing_starts, pressing_next, pressing_ends, pressing_waits, pressing_fails}
use Rattle.ws_end.proofs.attached.player.Player.press_due.Goals as goal

pub loop-self-init : goal.loop-self-init
loop-self-init g c = pressing_starts _ _ _ _

pub returns-then-records-from-clause-done : goal.returns-then-records-from-clause-done
returns-then-records-from-clause-done g c = pressing_waits _ _ _ _ _ c.args.keys.now c.loop-self.invariant
    c.index-keys-self.result c.loop-self-test.true c.index-keys-self.is _ _ c.from.ensures
    c.records.ensures.applied c.if-records-from.true

pub returns-in_err-press-clause-fault : goal.returns-in_err-press-clause-fault
returns-in_err-press-clause-fault g c =
    let p = err_from_is_err_and c.from_residual.result c.from_residual.ensures.1 in
    rw (p.1, p.2) (
      c.in_err-press.ensures.fault.0,
      pressing_fails _ _ _ _ _ c.args.keys.now c.loop-self.invariant c.index-keys-self.result c.loop-self-test.true
          c.index-keys-self.is _ _ c.from.ensures c.records.ensures.applied c.if-records-from.false _
          c.in_err-press.ensures.fault.1,
    )

pub loop-self-preserved : goal.loop-self-preserved
loop-self-preserved g c = pressing_next _ _ _ _ _ c.args.keys.now c.loop-self.invariant c.index-keys-self.result
    c.loop-self-test.true c.index-keys-self.is _ _ c.from.ensures c.records.ensures.applied
    c.if-records-from.false c.press.new.self _ _ (ap (λ n. n + 1) c.in_ok-press.ensures.place)
    c.in_ok-press.ensures.done

pub returns-clause-done : goal.returns-clause-done
returns-clause-done g c = pressing_ends _ _ _ _ _ _ c.loop-self.invariant
    (drop_all c.loop-self.self.pressed c.args.keys.now c.loop-self-test.false)
