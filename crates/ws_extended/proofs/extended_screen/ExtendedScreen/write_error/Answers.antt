use Rattle.ws_extended.specs.ExtendedStates.{uncovered}
use Rattle.ws_extended.proofs.extended_screen.ExtendedScreen.write_error.Goals as goal

pub returns-clause-begun : goal.returns-clause-begun
returns-clause-begun c = λ state shows. c.cover.ensures.covered (uncovered 0 state) (c.uncover.ensures state shows)
