use Rattle.std.proofs.Common.{[], arith}
use Rattle.std.proofs.lemmas.Result.{err_from_is_err_and}
use Rattle.ws_program.proofs.Shows.{shows_none}
use Rattle.ws_program.proofs.show.show_body_to.Goals as goal

pub show_piece-requires : goal.show_piece-requires
show_piece-requires g c = (
  c.args.sink.now,
  c.args.look,
  [],
  shows_none g.S.Sink.writer c.args.sink.now _ _ c.new-receiver.ensures c.before_any-made.ensures,
  omega arith,
)

pub returns-in_err-show_piece : goal.returns-in_err-show_piece
returns-in_err-show_piece g c =
    let p = err_from_is_err_and c.from_residual.result c.from_residual.ensures.1 in
    let none = shows_none g.S.Sink.writer c.args.sink.now _ _ c.new-receiver.ensures c.before_any-made.ensures in
    rw (p.1, p.2) (c.in_err-show_piece.ensures c.args.sink.now c.args.look [] none (omega arith))

pub returns-then-not-branch : goal.returns-then-not-branch
returns-then-not-branch g c =
    let none = shows_none g.S.Sink.writer c.args.sink.now _ _ c.new-receiver.ensures c.before_any-made.ensures in
    (rw c.if-not-branch.true at (c.in_ok-show_piece.ensures c.args.sink.now c.args.look [] none (omega arith))).1

pub returns : goal.returns
returns g c =
    let none = shows_none g.S.Sink.writer c.args.sink.now _ _ c.new-receiver.ensures c.before_any-made.ensures in
    let shown = rw c.if-not-branch.false at (c.in_ok-show_piece.ensures c.args.sink.now c.args.look [] none (omega arith)) in
    c.write_end.ensures c.args.sink.now c.args.bytes.now shown (omega arith)
