use Rattle.std.proofs.Common.{sym, subst}
use Rattle.ws_extended.specs.ExtendedViews.{ExtendedParts, Shows, kept_of}
use Rattle.ws_extended.proofs.StateSteps.{uncover_shows}
use Rattle.ws_extended.proofs.extended_screen.ExtendedScreen.uncover.Goals as goal

pub returns : goal.returns
returns c = λ state shows.
    let i = c.self.inside in
    uncover_shows state i.screen c.give_back.new.screen i.error_row i.text (kept_of i.kept)
    (subst (λ (p : ExtendedParts). Shows state p) (sym c.self.view_is) shows) c.args.cc2 c.give_back.ensures
