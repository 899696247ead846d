use Rattle.ws_end.proofs.Common.{◌∙◌, ap, sym, not, is_some}
use Rattle.ws_end.proofs.HostSteps.{cancel_sent}
use Rattle.ws_end.proofs.host_end.sending.Driver+Host.cancel.Goals as goal

pub returns-clause-sent : goal.returns-clause-sent
returns-clause-sent c = rw (← c.self.view_is, ← c.self-inside.view_is) (λ bytes items state l few. cancel_sent _ bytes
    items
    state l (sym c.records_allowed.ensures ∙ c.if-not-records_allowed.false)
    (ap is_some (sym c.pending.ensures) ∙ c.is_none.ensures ∙ ap not c.if-is_none.false) c.if-self.false _
    c.from.ensures.0)
