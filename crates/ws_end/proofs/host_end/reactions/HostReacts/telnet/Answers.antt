use Rattle.ws_end.specs.contracts.host_end.Host.{the_view}
use Rattle.ws_end.proofs.HostSteps.{negotiated}
use Rattle.ws_end.proofs.host_end.reactions.HostReacts.telnet.Goals as goal

pub returns-in-Ok-clause-reacted : goal.returns-in-Ok-clause-reacted
returns-in-Ok-clause-reacted c =
    rw (← c.self.view_is) (λ items state h. negotiated (the_view c.self.inside) _ state _ _ _ h
    (rw (← h.options) c.in-Ok.ensures.answer) (cc))
