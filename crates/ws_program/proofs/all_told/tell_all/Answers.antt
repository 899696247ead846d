use Rattle.std.proofs.Common.{refl, get_or}
use Rattle.std.proofs.lemmas.List.{take_all, take_more}
use Rattle.std.proofs.lemmas.Result.{err_from_is_err_and}
use Rattle.ws_trace.proofs.Tracings.{came_whole}
use Rattle.ws_program.specs.AllTold.{makes_by, told_in}
use Rattle.ws_program.proofs.AllLines.{makes_there, told_all, told_cut, told_more, told_none, told_stopped}
use Rattle.ws_program.proofs.all_told.tell_all.Goals as goal

pub loop-place-init : goal.loop-place-init
loop-place-init g c = told_none g.B.Code.rules (told_in c.args.way g.B.Unit.Listed.lines_of g.B.Shown.view)
    (makes_by c.args.way g.B.Shown.makes) g.S.Sink.writer c.args.sink.now _ _ c.new-reader.ensures
    (makes_there g.B.Shown.makes c.args.way _ _ c.requires.given)

pub returns-in_err-came-clause-fault : goal.returns-in_err-came-clause-fault
returns-in_err-came-clause-fault g c =
    let p = err_from_is_err_and c.from_residual.result c.from_residual.ensures.1 in
    rw (p.1, p.2) (told_stopped g.B.Code.rules (told_in c.args.way g.B.Unit.Listed.lines_of g.B.Shown.view) (makes_by c.args.way g.B.Shown.makes) g.S.Sink.writer c.args.sink.now
    c.loop-place.invariant c.args.bytes.now c.loop-place.place refl _ c.in_err-came.ensures.fault)

pub carry_out-refused-requires-clause-whole : goal.carry_out-refused-requires-clause-whole
carry_out-refused-requires-clause-whole g c =
    let a = c.loop-place.invariant.added in
    let n = c.in_ok-came.ensures.next a.next.standing a.there.stands in
    came_whole g.B.Code.rules a.next.standing (get_or c.args.bytes.now c.loop-place.place 0) c.in_ok-came.came n.0 n.1

pub carry_out-refused-requires-clause-made : goal.carry_out-refused-requires-clause-made
carry_out-refused-requires-clause-made g c =
    let a = c.loop-place.invariant.added in
    (a.next.state, a.there.made)

pub returns-in_err-counts-clause-fault : goal.returns-in_err-counts-clause-fault
returns-in_err-counts-clause-fault g c =
    let p = err_from_is_err_and c.from_residual-in_err-counts.result c.from_residual-in_err-counts.ensures.1 in
    rw (p.1, p.2) (told_cut g.B.Code.rules (told_in c.args.way g.B.Unit.Listed.lines_of g.B.Shown.view)
    (makes_by c.args.way g.B.Shown.makes) g.S.Sink.writer c.args.sink.now c.loop-place.invariant
    (get_or c.args.bytes.now c.loop-place.place 0) c.take.new.self c.carry_out-refused.new.made c.in_ok-came.came
    c.carry_out-refused.result c.in_ok-came.ensures.next c.carry_out-refused.ensures.fault
    c.carry_out-refused.ensures.after c.tell_came.new.sink c.args.bytes.now
    (take_more c.args.bytes.now c.loop-place.place 0 c.loop-place-test.true) _ c.in_err-counts.ensures.err.0
    c.in_err-counts.ensures.err.1)

pub loop-place-preserved : goal.loop-place-preserved
loop-place-preserved g c =
    rw (take_more c.args.bytes.now c.loop-place.place 0 c.loop-place-test.true) (told_more g.B.Code.rules
    (told_in c.args.way g.B.Unit.Listed.lines_of g.B.Shown.view)
    (makes_by c.args.way g.B.Shown.makes) g.S.Sink.writer c.args.sink.now c.loop-place.invariant
    (get_or c.args.bytes.now c.loop-place.place 0) c.take.new.self c.carry_out-refused.new.made c.in_ok-came.came
    c.carry_out-refused.result c.in_ok-came.ensures.next c.carry_out-refused.ensures.fault
    c.carry_out-refused.ensures.after c.tell_came.new.sink c.in_ok-counts.counts c.in_ok-counts.ensures.ok.0
    c.in_ok-counts.ensures.ok.1)

pub returns-clause-told : goal.returns-clause-told
returns-clause-told g c =
    rw (take_all c.loop-place.place c.args.bytes.now c.loop-place-test.false) at (told_all g.B.Code.rules
    (told_in c.args.way g.B.Unit.Listed.lines_of g.B.Shown.view)
    (makes_by c.args.way g.B.Shown.makes) g.S.Sink.writer c.args.sink.now c.loop-place.invariant
    c.may_end.result c.may_end.ensures)
