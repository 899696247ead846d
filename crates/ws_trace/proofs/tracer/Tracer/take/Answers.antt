use Rattle.std.proofs.lemmas.Result.{on_ok_weaker}
use Rattle.ws_trace.proofs.Common.{◌∙◌, entry_at}
use Rattle.ws_trace.proofs.Tracings.{added_one, came_whole, entries_there}
use Rattle.ws_trace.proofs.tracer.Tracer.take.Goals as goal

pub carry_out-refused-requires-clause-whole : goal.carry_out-refused-requires-clause-whole
carry_out-refused-requires-clause-whole g c =
    let t = rw (← c.self.view_is) at c.requires.1 in
    let n = c.in_ok-came.ensures.next c.requires.0.standing t.stands in
    came_whole g.B.Code.rules c.requires.0.standing c.args.byte c.in_ok-came.came n.0 n.1

pub returns-clause-heard : goal.returns-clause-heard
returns-clause-heard g c =
    let put = entry_at g.B.Traced.told_as c.args.milliseconds in
    rw (← c.self.view_is) (on_ok_weaker c.add_all.result (λ is at t.
    added_one g.B.Code.rules g.B.Traced.tracing put g.B.Traced.is_made _ c.take.new.self c.carry_out-refused.new.made at
    c.args.byte c.in_ok-came.came c.args.entries.now.items c.add_all.new.entries.items t c.in_ok-came.ensures.next
    c.carry_out-refused.ensures.after (is ∙ entries_there g.B.Code.rules g.B.Traced.tracing put _ at c.in_ok-came.came
    c.carry_out-refused.result c.args.entries.now.items t.counted (c.carry_out-refused.ensures.fault at.state t.made))
    c.in-Some.taken c.in-Some.ensures.1) c.add_all.ensures.added)
