use Rattle.std.proofs.Common.{sym, subst}
use Rattle.ws_extended.specs.ExtendedStates.{uncovered}
use Rattle.ws_extended.specs.ExtendedViews.{ExtendedParts, Shows, kept_of}
use Rattle.ws_extended.proofs.StateSteps.{roll_shows}
use Rattle.ws_extended.proofs.extended_screen.ExtendedScreen.roll.Goals as goal

pub returns-clause-rolled : goal.returns-clause-rolled
returns-clause-rolled c = λ state shows.
    let i = c.self.inside in
    roll_shows (uncovered 0 state) i.screen c.roll_rows.new.screen i.error_row i.text (kept_of i.kept)
    (subst (λ (p : ExtendedParts). Shows (uncovered 0 state) p) (sym c.self.view_is) (c.uncover.ensures state shows))
    c.args.roll.now c.roll_rows.ensures.rolled
