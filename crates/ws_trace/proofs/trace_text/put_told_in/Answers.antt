use Rattle.ws_trace.proofs.Common.{prints_both}
use Rattle.ws_trace.proofs.trace_text.put_told_in.Goals as goal

pub returns-in-Lines : goal.returns-in-Lines
returns-in-Lines g c = rw (c.in-Lines.is, ← c.saturating_sub-time.ensures, ← c.sender-end.ensures)
    (prints_both c.put_to-output.ensures c.put_told.ensures)

pub returns-in-Objects : goal.returns-in-Objects
returns-in-Objects g c = rw (c.in-Objects.is, ← c.saturating_sub-time.ensures, ← c.sender-end.ensures)
    c.put_told_object.ensures
