use Rattle.ws_record.proofs.Common.{flat_map, take, WentOut, doubled}
use Rattle.ws_record.proofs.item_writer.write_units.Given as goal

-- so far, the units before went out
abbrev pub invariant-loop-unit : goal.invariant-loop-unit
invariant-loop-unit g l =
    WentOut g.S.Sink.writer l.fn.sink l.sink
    (flat_map (λ u. flat_map doubled (g.B.Code.rules.spelling u)) (take l.unit-index l.units))
