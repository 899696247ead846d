use Rattle.std.proofs.Common.{[], refl, sym, subst, ◌∙◌}
use Rattle.ws_end.specs.host_end.HostReached.{HostReached, HostParts, unopened_host_end}
use Rattle.ws_end.specs.host_end.HostEndState.{new_host_end}
use Rattle.ws_c.proofs.host.opened_host.Goals as goal

pub returns-clause-host : goal.returns-clause-host
returns-clause-host c = record {
  leads = subst (λ (e : HostParts). HostReached e [] [] new_host_end) (sym c.holding-held.ensures.end)
      (c.open-opening.ensures.opened [] [] unopened_host_end c.new-end.ensures);
  waits = c.holding-held.ensures.none;
  unsent = c.of-sent.ensures ∙ c.new.ensures.items;
  unanswered = refl;
}
