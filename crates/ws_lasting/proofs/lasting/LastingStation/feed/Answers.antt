use Rattle.ws_lasting.proofs.Common.{◌≤◌, arith, length-take, take-take}
use Rattle.ws_lasting.proofs.lasting.LastingStation.feed.Goals as goal

pub returns-clause-taken : goal.returns-clause-taken
returns-clause-taken g c = λ at st few. (
    let used = c.take.result.used in
    let within : used ≤ c.min-count.result =
    omega (arith, c.take.ensures.within, length-take c.min-count.result c.args.piece.now) in
    rw (take-take used c.min-count.result c.args.piece.now within) at (c.take.ensures.taken at st))

pub returns-clause-first : goal.returns-clause-first
returns-clause-first g c = λ at st n lt. (
    let within : n ≤ c.min-count.result =
    omega (arith, lt, c.take.ensures.within, length-take c.min-count.result c.args.piece.now) in
    rw (take-take n c.min-count.result c.args.piece.now within) at (c.take.ensures.first at st n lt))
