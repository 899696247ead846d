use Rattle.std.proofs.Common.{sym, subst}
use Rattle.ws_extended.specs.ExtendedViews.{ExtendedParts, Shows, kept_of}
use Rattle.ws_extended.proofs.StateSteps.{reset_shows}
use Rattle.ws_extended.proofs.extended_screen.ExtendedScreen.reset.Goals as goal

pub returns-clause-reset : goal.returns-clause-reset
returns-clause-reset c = λ state shows.
    let i = c.self.inside in
    reset_shows state i.screen c.give_back_at_reset.new.screen i.error_row i.text (kept_of i.kept)
    (subst (λ (p : ExtendedParts). Shows state p) (sym c.self.view_is) shows) c.give_back_at_reset.ensures.given
