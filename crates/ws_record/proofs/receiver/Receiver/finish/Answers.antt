use Rattle.ws_record.proofs.Common.{on_ok_weaker, MatchResult-weaker}
use Rattle.ws_record.proofs.receiver.Receiver.finish.Goals as goal

pub returns-clause-ok : goal.returns-clause-ok
returns-clause-ok g c = on_ok_weaker c.finish.result (λ p. (
  rw (p.0, c.self.view_is),
  λ bytes items t. (let old = rw (← c.self.view_is) at t in p.1 bytes items _ old.leads.1),
)) c.finish.ensures.ok

pub returns-clause-truncated : goal.returns-clause-truncated
returns-clause-truncated g c = MatchResult-weaker c.finish.result c.finish.ensures.truncated (λ _ h. h)
    (λ fault h bytes items t fits. (let old = rw (← c.self.view_is) at t in h bytes items _ old.leads.1 fits))
