use Rattle.std.proofs.Common.{refl, false}
use Rattle.rows_session.specs.SecondDisplay.{profile_state}
use Rattle.rows_session.specs.contracts.second_display.SecondDisplay.{the_view}
use Rattle.rows_session.proofs.SecondKeys.{second_pressed}
use Rattle.rows_session.proofs.second_display.SecondDisplayStationDisplay.press.Goals as goal

pub returns-in-Some-clause-pressed : goal.returns-in-Some-clause-pressed
returns-in-Some-clause-pressed c = rw c.in-Some.is (rw (← c.self.view_is) (λ side given.
    second_pressed (the_view c.self.inside) c.press.new.self side c.in-Some.key c.press.result given
    (c.press.ensures.pressed (profile_state side) given.shown)))

pub returns-in-None-clause-pressed : goal.returns-in-None-clause-pressed
returns-in-None-clause-pressed c = rw c.in-None.is (rw (← c.self.view_is) (λ side given. (
  record side { happened = record side.happened { rings = false } },
  refl,
  record { options = refl; given = record { shown = given.shown; told = given.told; rings = refl } },
)))
