use Rattle.std.specs.Prelude.{Some, None}
use Rattle.ws_keys.proofs.StepLemmas.{does_follow}
use Rattle.ws_extended.specs.ExtendedViews.{kept_of}
use Rattle.ws_extended.proofs.Keeping.{on_ok}
use Rattle.ws_extended.proofs.StateSteps.{key_shows}
use Rattle.ws_extended.proofs.extended_screen.ExtendedScreen.press_on.Goals as goal

pub returns-clause-events : goal.returns-clause-events
returns-clause-events g c =
    let i = c.self.inside in
    let K = g.K.ScreenKey in
    rw (← c.self.view_is) (on_ok c.press_on.result
    (λ follows state shows. key_shows state i.screen c.press_on.new.screen i.error_row i.text (kept_of i.kept) shows
    (Some (K.edit c.args.key.now i.screen)) follows)
    (does_follow (K.refusals c.args.key.now i.screen) (Some (K.edit c.args.key.now i.screen)) None i.screen
    c.press_on.new.screen c.press_on.result c.press_on.ensures))
