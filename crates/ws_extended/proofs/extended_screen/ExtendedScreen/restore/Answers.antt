use Rattle.ws_extended.specs.ExtendedStates.{uncovered}
use Rattle.ws_extended.proofs.extended_screen.ExtendedScreen.restore.Goals as goal

pub returns-clause-restored : goal.returns-clause-restored
returns-clause-restored c = λ state shows. c.end_write.ensures.ended (uncovered 0 state) (c.uncover.ensures state shows)
