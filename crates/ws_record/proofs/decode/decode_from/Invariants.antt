use Rattle.ws_record.proofs.Faults.{Reading}
use Rattle.ws_record.proofs.decode.decode_from.Given as goal

abbrev pub invariant-loop : goal.invariant-loop
invariant-loop g l = Reading g.B.Code.rules g.S.Source.reader l.fn.source l.source l.counter
    l.receiver l.items.items
