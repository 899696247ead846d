use Rattle.std.proofs.Common.{ap, length, subst, sym, ◌∙◌}
use Rattle.ws_screen.specs.ScreenParts.{ScreenParts}
use Rattle.ws_extended_station.specs.ExtendedDisplays.{DisplayParts, ExtendedEndState, ExtendedGives}
use Rattle.ws_extended_station.specs.ScreenKeys.{IsChanged, changes}
use Rattle.ws_extended_station.specs.contracts.extended_display.ExtendedDisplay.{the_view}
use Rattle.ws_extended_station.proofs.ScreenKeys.{key_changed}
use Rattle.ws_extended_station.proofs.extended_display.ExtendedDisplay.press_on.Goals as goal

pub returns-clause-pressed : goal.returns-clause-pressed
returns-clause-pressed g c =
    let K = g.K.ScreenKey in
    let d = the_view c.self.inside in
    let refusals = K.refusals c.args.key.now in
    let edit = K.edit c.args.key.now in
    let P : DisplayParts → Type 0 = λ old. (end_state : ExtendedEndState) → ExtendedGives end_state.happened old
    → IsChanged old (record d { display = c.press_on.new.self }) end_state (changes refusals edit end_state)
    c.press_on.result in
    subst P c.self.view_is (λ end_state given. key_changed d end_state given
    (ap (λ (w : ScreenParts). length w.cells) (sym c.screen.ensures) ∙ c.known.ensures.legal.size) refusals edit
    c.press_on.new.self c.press_on.result c.press_on.ensures.held c.press_on.ensures.pressed
    c.press_on.ensures.unchanged c.press_on.ensures.events)
