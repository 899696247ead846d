use Rattle.std.proofs.lemmas.Result.{err_from_is_err_and}
use Rattle.ws_trace.proofs.Common.{arith, take, take_all, take_more, entry_at, length-take}
use Rattle.ws_trace.proofs.Tracings.{added_more, added_none, fault_weaker, heard_count}
use Rattle.ws_trace.proofs.tracer.Tracer.take_all.Goals as goal

pub loop-byte-init : goal.loop-byte-init
loop-byte-init g c = λ at t. added_none g.B.Code.rules g.B.Traced.tracing
    (entry_at g.B.Traced.told_as c.args.milliseconds) at c.args.entries.now.items _ t

pub take-requires : goal.take-requires
take-requires g c = let a = c.loop-byte.invariant c.requires.0 c.requires.1 in (a.next, a.there)

pub loop-byte-preserved : goal.loop-byte-preserved
loop-byte-preserved g c = λ at t.
    let a = c.loop-byte.invariant at t in
    rw (take_more c.args.bytes.now c.loop-byte.byte-index 0 c.loop-byte-test.true) (added_more g.B.Code.rules
    g.B.Traced.tracing (entry_at g.B.Traced.told_as c.args.milliseconds) a (c.in_ok-take.ensures.heard a.next a.there))

pub returns-in_err-take-clause-fault : goal.returns-in_err-take-clause-fault
returns-in_err-take-clause-fault g c =
    let p = err_from_is_err_and c.from_residual.result c.from_residual.ensures.1 in
    let i = c.loop-byte.byte-index in
    rw (p.1, p.2) (fault_weaker (λ full at t within. (
    let a = c.loop-byte.invariant at t in
    let count = heard_count g.B.Code.rules g.B.Traced.tracing (entry_at g.B.Traced.told_as c.args.milliseconds) at
    a.next (take i c.args.bytes.now) a.added a.heard in
    let size = length-take i c.args.bytes.now in
    omega (arith, full a.next a.there (omega (arith, within, count.0, count.1)), count.0, size, c.loop-byte-test.true)))
    c.in_err-take.ensures.fault)

pub returns-clause-heard : goal.returns-clause-heard
returns-clause-heard g c = λ at t. rw (take_all c.loop-byte.byte-index c.args.bytes.now c.loop-byte-test.false) at
    (c.loop-byte.invariant at t)
