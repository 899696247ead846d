use Rattle.std.proofs.lemmas.Result.{err_from_is_err_and}
use Rattle.ws_program.specs.AllTold.{told_in}
use Rattle.ws_program.proofs.AllLines.{came_cut, refusal_cut, refusal_out}
use Rattle.ws_program.proofs.all_told.tell_came.Goals as goal

pub returns-in_err-counts-clause-err : goal.returns-in_err-counts-clause-err
returns-in_err-counts-clause-err g c =
    let p = err_from_is_err_and c.from_residual.result c.from_residual.ensures.1 in
    let e = c.in_err-counts.ensures.err in
    rw (p.1, p.2, c.in-Some.is) (
      e.0,
      came_cut (told_in c.args.way g.B.Unit.Listed.lines_of g.B.Shown.view)
          g.S.Sink.writer c.args.place c.in-Some.told c.args.sink.now c.tell.new.sink c.args.refused e.1,
    )

pub returns-in-Some-refused-clause-ok : goal.returns-in-Some-refused-clause-ok
returns-in-Some-refused-clause-ok g c =
    let e = c.in_ok-counts.ensures.ok in
    rw (c.in-Some.is, c.in-Some-refused.is) (refusal_out (told_in c.args.way
    g.B.Unit.Listed.lines_of g.B.Shown.view) g.S.Sink.writer c.args.place c.in-Some.told c.args.sink.now c.tell.new.sink
    c.tell-in-Some-refused.new.sink c.in-Some-refused.reason e.1 c.tell-in-Some-refused.result c.args.counts c.in_ok-counts.counts e.0
    c.tell-in-Some-refused.ensures.ok)

pub returns-in-Some-refused-clause-err : goal.returns-in-Some-refused-clause-err
returns-in-Some-refused-clause-err g c =
    let e = c.in_ok-counts.ensures.ok in
    rw (c.in-Some.is, c.in-Some-refused.is) (refusal_cut (told_in c.args.way
    g.B.Unit.Listed.lines_of g.B.Shown.view) g.S.Sink.writer c.args.place c.in-Some.told c.args.sink.now c.tell.new.sink
    c.tell-in-Some-refused.new.sink c.in-Some-refused.reason e.1 c.tell-in-Some-refused.result c.tell-in-Some-refused.ensures.err)
