use Rattle.ws_record.proofs.Common.{refl, inl, inr, arith, common_steps, append-nil, length_rest, bytes_on}
use Rattle.ws_record.proofs.Common.{room_next, handed_on}
use Rattle.ws_record.proofs.Faults.{item_completed}
use Rattle.ws_record.proofs.Receivers.{left_feeds, same_received}
use Rattle.ws_record.proofs.receiver.Receiver.take_all.Goals as goal

pub loop-used-init : goal.loop-used-init
loop-used-init g c = (omega arith, λ bytes t fits. rw (append-nil bytes) t)

pub returns-in_err-fed-clause-fault : goal.returns-in_err-fed-clause-fault
returns-in_err-fed-clause-fault g c =
    rw (handed_on c.from_residual.result
    c.from_residual.ensures.1) (λ bytes t fits. inl (
      c.loop-used.items.items,
      left_feeds g.B.Code.rules bytes _
          c.args.piece.now c.loop-used.used _ (c.in_err-fed.ensures.fault _ _ (c.loop-used.invariant.1 bytes t fits)
          (room_next bytes c.args.piece.now _ fits c.loop-used.invariant.0)),
    ))

pub returns-then-is_err-clause-fault : goal.returns-then-is_err-clause-fault
returns-then-is_err-clause-fault g c =
    λ bytes t fits. inr (
      refl,
      item_completed _ _ _ _ _ _ _ (rw
          (c.in-Some.is, bytes_on bytes c.args.piece.now c.loop-used.used c.in_ok-fed.fed.used) at
          (c.in_ok-fed.ensures.taken _ _ (c.loop-used.invariant.1 bytes t fits)
          (room_next bytes c.args.piece.now _ fits c.loop-used.invariant.0))),
    )

pub loop-used-preserved-else-is_err : goal.loop-used-preserved-else-is_err
loop-used-preserved-else-is_err g c = (
  omega (arith, c.in_ok-fed.ensures.used, length_rest c.args.piece.now c.loop-used.used, c.loop-used.invariant.0),
  λ bytes t fits. (let on = rw (c.in-Some.is, bytes_on bytes c.args.piece.now c.loop-used.used c.in_ok-fed.fed.used) at
      (c.in_ok-fed.ensures.taken _ _ (c.loop-used.invariant.1 bytes t fits)
      (room_next bytes c.args.piece.now _ fits c.loop-used.invariant.0)) in
      same_received _ _ on (grind (arith, common_steps)) (grind (arith, common_steps))),
)

pub loop-used-preserved : goal.loop-used-preserved
loop-used-preserved g c = (
  omega
      (arith, c.in_ok-fed.ensures.used, length_rest c.args.piece.now c.loop-used.used, c.loop-used.invariant.0),
  λ bytes t fits. rw (
    c.in_default.is,
    bytes_on bytes c.args.piece.now c.loop-used.used c.in_ok-fed.fed.used,
    append-nil c.loop-used.items.items,
  ) at (c.in_ok-fed.ensures.taken _ _ (c.loop-used.invariant.1 bytes t fits)
      (room_next bytes c.args.piece.now _ fits c.loop-used.invariant.0)),
)
