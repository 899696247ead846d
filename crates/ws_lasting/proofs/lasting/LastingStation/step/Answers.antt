use Rattle.ws_lasting.proofs.Common.{fresh_begins}
use Rattle.ws_lasting.proofs.lasting.LastingStation.step.Goals as goal

pub invariant_of-self : goal.invariant_of-self
invariant_of-self g c = (fresh_begins c.restart.new.self c.restart.ensures.fresh, c.self.invariant.1)
