use Rattle.ws_keys.specs.Keys.{edit_of}
use Rattle.ws_extended.specs.ExtendedViews.{kept_of}
use Rattle.ws_extended.proofs.Keeping.{on_ok}
use Rattle.ws_extended.proofs.StateSteps.{key_shows}
use Rattle.ws_extended.proofs.extended_screen.ExtendedScreen.press.Goals as goal

pub returns-clause-events : goal.returns-clause-events
returns-clause-events c =
    let i = c.self.inside in
    rw (← c.self.view_is) (on_ok c.press.result
    (λ follows state shows. key_shows state i.screen c.press.new.screen i.error_row i.text (kept_of i.kept) shows
    (edit_of i.screen c.args.key) follows) c.press.ensures.events)
