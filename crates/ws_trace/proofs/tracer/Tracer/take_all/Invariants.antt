use Rattle.ws_trace.proofs.Common.{take, EndAt, entry_at, IsAdded, Tracks}
use Rattle.ws_trace.proofs.tracer.Tracer.take_all.Given as goal

-- the bytes so far are added
abbrev pub invariant-loop-byte : goal.invariant-loop-byte
invariant-loop-byte g l = (at : EndAt g.row.B-Unit.Denot g.B.Traced.State)
    → Tracks g.B.Code.rules g.B.Traced.is_made l.fn.self at
    → IsAdded g.B.Code.rules g.B.Traced.tracing (entry_at g.B.Traced.told_as l.milliseconds) at
    (take l.byte-index l.bytes) l.fn.entries.items l.entries.items (Tracks g.B.Code.rules g.B.Traced.is_made l.self)
