use Rattle.std.proofs.Common.{sym, subst}
use Rattle.ws_screen.specs.Given.{Gives}
use Rattle.ws_screen.specs.ScreenParts.{ScreenParts}
use Rattle.ws_screen.proofs.ScreenLaws.{one_screen}
use Rattle.ws_extended.specs.ExtendedStates.{state_after_reset}
use Rattle.ws_extended.specs.ExtendedViews.{ExtendedParts, Shows, kept_of}
use Rattle.ws_extended.proofs.StateSteps.{reset_shows}
use Rattle.ws_extended.proofs.extended_screen.ExtendedScreen.told.Goals as goal

pub returns-clause-told : goal.returns-clause-told
returns-clause-told c = λ state shows.
    let i = c.self.inside in
    let told = c.give_back_at_reset.new.screen in
    let gives : Gives (state_after_reset state).history told =
    (reset_shows state i.screen told i.error_row i.text (kept_of i.kept)
    (subst (λ (p : ExtendedParts). Shows state p) (sym c.self.view_is) shows)
    (λ h g. c.give_back_at_reset.ensures.given h
    (subst (λ (s : ScreenParts). Gives h s) (sym c.assign.ensures) g))).gives in
    one_screen (state_after_reset state).history told gives c.known.ensures.legal.size
