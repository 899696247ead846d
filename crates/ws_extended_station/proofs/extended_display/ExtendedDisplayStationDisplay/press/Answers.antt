use Rattle.std.proofs.Common.{ap, length, refl, sym, ◌∙◌}
use Rattle.ws_screen.specs.ScreenParts.{ScreenParts}
use Rattle.ws_extended.specs.ExtendedStates.{state_after_reset}
use Rattle.ws_end.specs.station.Alarms.{alarm_count}
use Rattle.ws_extended_station.specs.ExtendedDisplays.{with_state}
use Rattle.ws_extended_station.specs.contracts.extended_display.ExtendedDisplay.{the_view}
use Rattle.ws_extended_station.proofs.AlarmLaws.{alarms_behind_reset}
use Rattle.ws_extended_station.proofs.Pressing.{key_pressed}
use Rattle.ws_extended_station.proofs.extended_display.ExtendedDisplayStationDisplay.press.Goals as goal

pub returns-in-Profile-clause-pressed : goal.returns-in-Profile-clause-pressed
returns-in-Profile-clause-pressed c = rw c.in-Profile.is (rw (← c.self.view_is) (λ end_state given.
    key_pressed (the_view c.self.inside) end_state given c.in-Profile.key c.press.new.self c.press.result
    (ap (λ (w : ScreenParts). length w.cells) (sym c.screen.ensures) ∙ c.known.ensures.legal.size)
    c.press.ensures.held c.press.ensures.pressed c.press.ensures.screen
    c.press.ensures.unchanged))

pub returns-in-Reset-clause-pressed : goal.returns-in-Reset-clause-pressed
returns-in-Reset-clause-pressed c = rw c.in-Reset.is (rw (← c.self.view_is) (λ end_state given. (
  with_state end_state (state_after_reset end_state.happened.state),
  refl,
  record {
    options = refl;
    given = record {
      shows = c.reset.ensures.reset end_state.happened.state given.shows;
      sounds = given.sounds ∙ ap alarm_count (sym (alarms_behind_reset end_state.happened.state));
      terminal_is = given.terminal_is;
    };
  },
)))
