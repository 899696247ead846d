use Rattle.ws_trace.proofs.Common.{not, refl, ap, fresh_begins}
use Rattle.ws_trace.proofs.ReadSteps.{passed_more, passed_refused, passed_token}
use Rattle.ws_trace.proofs.reader.Reader.pass.Goals as goal

pub invariant_of-self-in-Bad : goal.invariant_of-self-in-Bad
invariant_of-self-in-Bad g c = fresh_begins c.restart.new.self c.restart.ensures.fresh

pub invariant_of-self-in-Unit : goal.invariant_of-self-in-Unit
invariant_of-self-in-Unit g c = fresh_begins c.restart-in-Unit.new.self c.restart-in-Unit.ensures.fresh

pub returns-in-More : goal.returns-in-More
returns-in-More g c = let passes = rw (← c.self.view_is) at c.requires.passes in
    rw (← c.self.view_is) (passed_more g.B.Code.rules _ _ c.args.byte passes passes refl c.in-More.ensures.1
    c.in-More.ensures.2)

pub returns-in-Bad : goal.returns-in-Bad
returns-in-Bad g c = let passes = rw (← c.self.view_is) at c.requires.passes in
    rw (← c.self.view_is) (passed_refused g.B.Code.rules _ _ c.args.byte c.in-Bad.reason passes passes refl
    c.restart.ensures.fresh c.in-Bad.ensures)

pub returns-in-Unit : goal.returns-in-Unit
returns-in-Unit g c = let passes = rw (← c.self.view_is) at c.requires.passes in
    rw (← c.self.view_is) (rw c.told_of.ensures (passed_token g.B.Code.rules _ _ c.args.byte c.in-Unit.token passes
    (ap not c.is_eor.ensures) refl c.restart-in-Unit.ensures.fresh c.in-Unit.ensures))
