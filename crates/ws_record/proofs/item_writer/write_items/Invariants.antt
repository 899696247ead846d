use Rattle.ws_record.proofs.Common.{take, WentOut, plain_spelling}
use Rattle.ws_record.proofs.item_writer.write_items.Given as goal

-- so far, the items before went out
abbrev pub invariant-loop-item : goal.invariant-loop-item
invariant-loop-item g l =
    WentOut g.S.Sink.writer l.fn.sink l.sink
    (plain_spelling g.B.Code.rules (take l.item-index l.items))
