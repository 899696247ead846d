use Rattle.std.proofs.Common.{Option, sym, subst, arith}
use Rattle.ws_screen.specs.Bodies.{after_elements}
use Rattle.ws_screen.specs.Given.{Gives}
use Rattle.ws_screen.proofs.Applies.{gives_end}
use Rattle.ws_extended.specs.ErrorLine.{RESETS, given_back}
use Rattle.ws_extended.specs.ExtendedStates.{reset_history}
use Rattle.ws_extended.specs.ExtendedViews.{kept_of}
use Rattle.ws_extended.specs.declared.error_line.KeptRow.{KeptRow}
use Rattle.ws_extended.proofs.StateSteps.{comes_back}
use Rattle.ws_extended.proofs.extended_screen.steps.give_back_at_reset.Goals as goal

pub returns-in-Some-clause-given : goal.returns-in-Some-clause-given
returns-in-Some-clause-given c = λ h g.
    let kept = c.in-Some.kept in
    subst (λ (o : Option KeptRow). Gives (reset_history h (kept_of o)) c.end_write-in-Some.new.self) (sym c.in-Some.is)
    (gives_end (after_elements h (given_back RESETS kept.row kept.cells)) c.give_back.new.screen
    c.end_write-in-Some.new.self
    (comes_back h c.args.screen.now c.end_write.new.self c.give_back.new.screen RESETS kept.row kept.cells g
    c.end_write.ensures.events c.end_write.ensures.legal c.end_write.ensures.closed
    (omega (arith, kept.on_screen, kept.whole))
    c.give_back.ensures.carried) c.end_write-in-Some.ensures.events)
