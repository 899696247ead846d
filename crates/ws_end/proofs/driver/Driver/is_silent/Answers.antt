use Rattle.std.proofs.Common.{rules, sym, ◌∙◌}
use Rattle.ws_end.proofs.driver.Drivings.{is_empty}
use Rattle.ws_end.proofs.driver.Driver.is_silent.Goals as goal

pub returns-then-is_none-clause-silent : goal.returns-then-is_none-clause-silent
returns-then-is_none-clause-silent g c = rw (← c.self.view_is) (λ empty.
    (c.in-Ok.step, search rules, search rules, sym c.bytes.ensures ∙ is_empty _ (sym c.is_empty.ensures ∙ empty)))
