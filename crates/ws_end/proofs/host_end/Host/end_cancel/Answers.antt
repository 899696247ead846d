use Rattle.ws_end.specs.contracts.host_end.Host.{the_view}
use Rattle.ws_end.proofs.HostSteps.{cancel_ended}
use Rattle.ws_end.proofs.host_end.Host.end_cancel.Goals as goal

pub returns-clause-reacted : goal.returns-clause-reacted
returns-clause-reacted c = rw (← c.self.view_is) (λ state h. rw c.event_step.ensures
    (cancel_ended (the_view c.self.inside) _ state h c.if-not-self.false c.cancel_read.ensures.event))
