use Rattle.ws_lasting.proofs.Common.{refl, arith, fresh_begins}
use Rattle.ws_lasting.proofs.Passing.{reads_anew}
use Rattle.ws_lasting.proofs.lasting.LastingStation.start.Goals as goal

pub invariant_of-result : goal.invariant_of-result
invariant_of-result g c = (fresh_begins c.start.result c.start.ensures.fresh, omega arith)

pub returns-clause-stands : goal.returns-clause-stands
returns-clause-stands g c = record {
  works = refl;
  is_begun = c.start.ensures.fresh;
  is_environ = refl;
  within = (
    reads_anew g.D.Commands.Code.rules g.D.StationDisplay.does g.met.D.Commands.Code.prefix_free
        g.met.D.Commands.Code.begins c.new.result 0 _ refl refl c.new.ensures.reached,
    refl,
  );
}
