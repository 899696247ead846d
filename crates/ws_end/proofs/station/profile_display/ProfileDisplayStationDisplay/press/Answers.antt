use Rattle.ws_end.specs.contracts.station.profile_display.ProfileDisplay.{the_view}
use Rattle.ws_end.proofs.ProfileKeys.{pressed}
use Rattle.ws_end.proofs.station.profile_display.ProfileDisplayStationDisplay.press.Goals as goal

pub returns-clause-pressed : goal.returns-clause-pressed
returns-clause-pressed c = rw (← c.self.view_is) (λ state given. pressed (the_view c.self.inside) state given
    c.known.ensures.legal.size c.args.key c.press.new.screen c.press.result c.press.ensures.pressed
    c.press.ensures.events)
