use Rattle.ws_end.proofs.Common.{◌≡◌, ◌++◌, ◌∙◌, take, ap, arith, length, append_assoc, length-append, append-nil}
use Rattle.ws_end.proofs.Common.{take_all, err_from_is_err_and, length_rest, left_of, left_joined, bytes_on}
use Rattle.ws_code.proofs.Pieces.{room_next}
use Rattle.ws_end.proofs.attached.PlaySteps.{fault_within}
use Rattle.ws_end.proofs.attached.player.Player.take_all.Goals as goal

pub loop-used-init : goal.loop-used-init
loop-used-init g c = (omega arith, λ start t bytes items h few. (items, rw (append-nil bytes) h))

pub returns-in_err-used-clause-fault : goal.returns-in_err-used-clause-fault
returns-in_err-used-clause-fault g c =
    let p = err_from_is_err_and c.from_residual.result c.from_residual.ensures.1 in
    let piece = c.args.piece.now in
    let i = c.loop-used.used in
    let inv = c.loop-used.invariant in
    rw (p.1, p.2) (λ start t bytes items h few.
    let prefix = bytes ++ take i piece in
    let so_far = inv.1 start t bytes items h few in
    let whole : prefix ++ left_of piece i ≡ bytes ++ piece = append_assoc bytes (take i piece) (left_of piece i)
    ∙ ap (λ z. bytes ++ z) (left_joined piece i) in
    rw (← whole) (fault_within t c.args.keys.now g.S.Sink.writer start c.take.new.sink (length prefix)
    (length bytes) (prefix ++ left_of piece i) _ (omega (arith, length-append bytes (take i piece)))
    (c.in_err-used.ensures.fault start t prefix so_far.0 so_far.1 (room_next bytes piece i few inv.0))))

pub loop-used-preserved : goal.loop-used-preserved
loop-used-preserved g c = (
  omega (arith, c.in_ok-used.ensures.within, length_rest c.args.piece.now c.loop-used.used),
  λ start t bytes items h few.
      let piece = c.args.piece.now in
      let i = c.loop-used.used in
      let inv = c.loop-used.invariant in
      let so_far = inv.1 start t bytes items h few in
      let next = c.in_ok-used.ensures.come start t (bytes ++ take i piece) so_far.0 so_far.1
      (room_next bytes piece i few inv.0) in
      (next.0, rw (← bytes_on bytes piece i _) next.1),
)

pub returns-clause-come : goal.returns-clause-come
returns-clause-come g c = λ start t bytes items h few.
    let so_far = c.loop-used.invariant.1 start t bytes items h few in
    (so_far.0, rw (← take_all c.loop-used.used c.args.piece.now c.loop-used-test.false) so_far.1)
