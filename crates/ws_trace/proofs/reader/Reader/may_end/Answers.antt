use Rattle.ws_trace.proofs.ReadSteps.{ends_there}
use Rattle.ws_trace.proofs.reader.Reader.may_end.Goals as goal

pub returns-then-not-self : goal.returns-then-not-self
returns-then-not-self g c = rw (← c.self.view_is) (rw c.is_ok.ensures.value (ends_there g.B.Code.rules _ _
    c.finish.result c.if-not-self.true c.finish.ensures.ok c.finish.ensures.truncated))
