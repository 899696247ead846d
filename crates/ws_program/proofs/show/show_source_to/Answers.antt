use Rattle.std.proofs.Common.{◌≡◌, ◌++◌, ◌+◌, [], length, take, inl, inr, refl, ap, ◌∙◌, arith, length-append}
use Rattle.std.proofs.lemmas.List.{length-take-le}
use Rattle.std.proofs.lemmas.Result.{err_from_is_err_and}
use Rattle.ws_code.specs.Device.{one_more}
use Rattle.ws_code.proofs.DeviceLaws.{gave_all, gave_more, take_some}
use Rattle.ws_program.proofs.Shows.{all_lines, lines_out, shows_none}
use Rattle.ws_program.proofs.show.show_source_to.Goals as goal

pub loop-init : goal.loop-init
loop-init g c = (
  [],
  record { reads = []; made = refl; counted = refl; within = omega arith; gave = refl; uncounted = refl },
  shows_none g.S.Sink.writer c.args.sink.now _ _ c.new-receiver.ensures c.before_any-made.ensures,
  omega arith,
)

pub show_piece-requires : goal.show_piece-requires
show_piece-requires g c =
    let inv = c.loop.invariant in
    let long = length-take-le c.in-Ok.given c.read.new.into c.in-Ok.ensures.ok.0 in
    (c.args.sink.now, c.args.look, inv.0, inv.2, omega (arith, inv.3, long, c.in-Ok.ensures.ok.0))

pub returns-in-Ok-eq0 : goal.returns-in-Ok-eq0
returns-in-Ok-eq0 g c =
    let inv = c.loop.invariant in
    let zero : c.in-Ok-eq0.field-0 ≡ 0 = omega arith in (
      inv.0,
      inr (
        inl (gave_all g.R.Source.reader _ c.loop.source _ c.loop.counter inv.0 (length c.loop.room) inv.1 (omega arith)
            (omega arith) (rw zero at c.in-Ok-eq0.ensures.ok.1) c.in-Ok-eq0.ensures.ok.2),
        c.write_end.ensures c.args.sink.now inv.0 inv.2 (omega (arith, inv.3)),
      ),
    )

pub returns-in_err-show_piece-in-Ok : goal.returns-in_err-show_piece-in-Ok
returns-in_err-show_piece-in-Ok g c =
    let inv = c.loop.invariant in
    let piece = take c.in-Ok.given c.read.new.into in
    let long = length-take-le c.in-Ok.given c.read.new.into c.in-Ok.ensures.ok.0 in
    let gave = gave_more g.R.Source.reader _ c.loop.source _ c.loop.counter inv.0 (length c.loop.room) piece inv.1
    (omega arith) c.in-Ok.ensures.ok.1 (take_some c.read.new.into c.in-Ok.given c.in-Ok.given-test.1
    c.in-Ok.ensures.ok.0) c.in-Ok.ensures.ok.2 in
    let shown = c.in_err-show_piece-in-Ok.ensures c.args.sink.now c.args.look inv.0 inv.2
    (omega (arith, inv.3, long, c.in-Ok.ensures.ok.0)) in
    let p = err_from_is_err_and c.from_residual.result c.from_residual.ensures.1 in
    rw (p.1, p.2) (
      inv.0 ++ piece,
      inr (inr (c.loop.counter + 1, gave, inr (c.in_err-show_piece-in-Ok.field-0.0, shown)), shown),
    )

pub returns-then-not-branch : goal.returns-then-not-branch
returns-then-not-branch g c =
    let inv = c.loop.invariant in
    let piece = take c.in-Ok.given c.read.new.into in
    let long = length-take-le c.in-Ok.given c.read.new.into c.in-Ok.ensures.ok.0 in
    let gave = gave_more g.R.Source.reader _ c.loop.source _ c.loop.counter inv.0 (length c.loop.room) piece inv.1
    (omega arith) c.in-Ok.ensures.ok.1 (take_some c.read.new.into c.in-Ok.given c.in-Ok.given-test.1
    c.in-Ok.ensures.ok.0) c.in-Ok.ensures.ok.2 in
    let shown = rw c.if-not-branch.true at (c.in_ok-show_piece-in-Ok.ensures c.args.sink.now c.args.look inv.0 inv.2
    (omega (arith, inv.3, long, c.in-Ok.ensures.ok.0))) in
    (inv.0 ++ piece, inr (inr (c.loop.counter + 1, gave, inl shown.0), shown.1))

pub returns-in-Err : goal.returns-in-Err
returns-in-Err g c =
    let inv = c.loop.invariant in (
      inv.0,
      inl (
        inl (record {
          before = c.loop.source;
          count = c.loop.counter;
          gave = inv.1;
          one_left = omega arith;
          room = length c.loop.room;
          last = c.in-Err.ensures.err.0;
          counted = c.in-Err.ensures.err.1 ∙ ap one_more inv.1.uncounted;
        }),
        inl (
          lines_out inv.2,
          (all_lines inv.2, refl),
          inv.2.went_out,
        ),
      ),
    )

pub loop-preserved : goal.loop-preserved
loop-preserved g c =
    let inv = c.loop.invariant in
    let piece = take c.in-Ok.given c.read.new.into in
    let long = length-take-le c.in-Ok.given c.read.new.into c.in-Ok.ensures.ok.0 in
    let gave = gave_more g.R.Source.reader _ c.loop.source _ c.loop.counter inv.0 (length c.loop.room) piece inv.1
    (omega arith) c.in-Ok.ensures.ok.1 (take_some c.read.new.into c.in-Ok.given c.in-Ok.given-test.1
    c.in-Ok.ensures.ok.0) c.in-Ok.ensures.ok.2 in
    let shown = rw c.if-not-branch.false at (c.in_ok-show_piece-in-Ok.ensures c.args.sink.now c.args.look inv.0 inv.2
    (omega (arith, inv.3, long, c.in-Ok.ensures.ok.0))) in
    (inv.0 ++ piece, gave, shown, omega (arith, inv.3, long, c.in-Ok.ensures.ok.0, length-append inv.0 piece))

pub returns : goal.returns
returns g c =
    let inv = c.loop.invariant in (
      inv.0,
      inl (
        inr (rw (let e : c.loop.counter ≡ 4294967296 = omega arith in e) at inv.1),
        inl (
          lines_out inv.2,
          (all_lines inv.2, refl),
          inv.2.went_out,
        ),
      ),
    )
