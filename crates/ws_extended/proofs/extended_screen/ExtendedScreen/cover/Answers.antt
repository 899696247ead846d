use Rattle.std.proofs.Common.{sym, subst}
use Rattle.ws_extended.specs.ExtendedViews.{ExtendedParts, Shows, kept_of}
use Rattle.ws_extended.proofs.StateSteps.{cover_shows}
use Rattle.ws_extended.proofs.extended_screen.ExtendedScreen.cover.Goals as goal

pub returns-clause-covered : goal.returns-clause-covered
returns-clause-covered c = λ state shows.
    let i = c.self.inside in
    let kept = c.of-kept.result in
    cover_shows state i.screen c.begin_error.new.screen i.error_row i.text (kept_of i.kept)
    (subst (λ (p : ExtendedParts). Shows state p) (sym c.self.view_is) shows) c.end_write.new.self
    (record { row = kept.row; cells = kept.cells }) c.end_write.ensures.events c.end_write.ensures.legal
    c.end_write.ensures.closed c.known.ensures.legal.size c.self.invariant.0 c.of-kept.ensures.row
    c.of-kept.ensures.cells
    c.begin_error.ensures.carried
