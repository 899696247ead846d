use Rattle.ws_printing.proofs.SourceReads.{Taking}
use Rattle.ws_printing.proofs.check.verdict_from.Given as goal

abbrev pub invariant-loop : goal.invariant-loop
invariant-loop g l = Taking g.B.Code.rules g.R.Source.reader l.fn.source l.source l.counter
    l.checker.live l.checker.tally l.size
