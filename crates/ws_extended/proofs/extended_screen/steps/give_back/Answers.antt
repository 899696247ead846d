use Rattle.std.proofs.Common.{Option, sym, subst, arith}
use Rattle.ws_screen.specs.Bodies.{after_elements}
use Rattle.ws_screen.specs.Given.{Gives}
use Rattle.ws_extended.specs.ExtendedStates.{gives_back}
use Rattle.ws_extended.specs.ExtendedViews.{kept_of}
use Rattle.ws_extended.specs.declared.error_line.KeptRow.{KeptRow}
use Rattle.ws_extended.proofs.StateSteps.{comes_back}
use Rattle.ws_extended.proofs.extended_screen.steps.give_back.Goals as goal

pub returns-in-Some : goal.returns-in-Some
returns-in-Some c = λ h g.
    let kept = c.in-Some.kept in
    subst (λ (o : Option KeptRow). Gives (after_elements h (gives_back c.args.cc2 (kept_of o))) c.give_back.new.screen)
    (sym c.in-Some.is)
    (comes_back h c.args.screen.now c.end_write.new.self c.give_back.new.screen c.args.cc2 kept.row kept.cells g
    c.end_write.ensures.events c.end_write.ensures.legal c.end_write.ensures.closed
    (omega (arith, kept.on_screen, kept.whole))
    c.give_back.ensures.carried)
