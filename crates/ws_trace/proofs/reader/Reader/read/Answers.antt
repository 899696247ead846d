use Rattle.ws_trace.proofs.Common.{arith, ap, not, fresh_begins, inr, refl}
use Rattle.ws_trace.proofs.ReadSteps.{read_none, read_item, read_refused, stands_nowhere}
use Rattle.ws_trace.proofs.reader.Reader.read.Goals as goal

pub invariant_of-self-in-Refused : goal.invariant_of-self-in-Refused
invariant_of-self-in-Refused g c = fresh_begins c.restart.new.self c.restart.ensures.fresh

pub returns-in-Ok-None-clause-next : goal.returns-in-Ok-None-clause-next
returns-in-Ok-None-clause-next g c = let reads = rw (← c.self.view_is) at c.requires.reads in
    rw (← c.self.view_is) (read_none g.B.Code.rules _ _ c.args.byte reads reads (λ bytes items h fits. (
      omega (arith, c.if-taken.false, c.taken.ensures, h.leads.1.count),
      rw c.in-Ok-None.field-0-is at (c.in-Ok-None.ensures.taken bytes items h fits),
    )))

pub returns-in-Ok-Some-clause-next : goal.returns-in-Ok-Some-clause-next
returns-in-Ok-Some-clause-next g c = let reads = rw (← c.self.view_is) at c.requires.reads in
    rw (← c.self.view_is)
    (read_item g.B.Code.rules _ _ c.args.byte c.in-Ok-Some.item reads reads (λ bytes items h fits. (
      omega (arith, c.if-taken.false, c.taken.ensures, h.leads.1.count),
      rw c.in-Ok-Some.field-0-is at (c.in-Ok-Some.ensures.taken bytes items h fits),
    )))

pub returns-in-Refused-clause-next : goal.returns-in-Refused-clause-next
returns-in-Refused-clause-next g c = let reads = rw (← c.self.view_is) at c.requires.reads in
    rw (← c.self.view_is)
    (read_refused g.B.Code.rules _ _ c.args.byte c.in-Refused.place c.in-Refused.reason
    reads (ap not c.ends_record.ensures) c.restart.ensures.fresh c.new.ensures (λ bytes items h fits.
    rw c.in-Refused.is at (c.in-Err.ensures.fault bytes items h fits)))

pub returns-in_default-clause-fault : goal.returns-in_default-clause-fault
returns-in_default-clause-fault g c = let reads = rw (← c.self.view_is) at c.requires.reads in
    let full = stands_nowhere g.B.Code.rules _ c.args.byte c.in-Err.fault c.in_default.not-Refused
    c.in_default.not-Memory reads c.in-Err.ensures.fault in
    inr (refl, rw (← c.self.view_is) full)
