use Rattle.ws_trace.proofs.Common.{fresh_begins}
use Rattle.ws_trace.proofs.reader.Reader.new.Goals as goal

pub invariant_of-result : goal.invariant_of-result
invariant_of-result g c = fresh_begins c.start.result c.start.ensures.fresh
