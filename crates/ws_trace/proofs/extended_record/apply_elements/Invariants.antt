use Rattle.ws_trace.proofs.Common.{drop}
use Rattle.ws_trace.proofs.ExtendedRecords.{CarriedUpTo}
use Rattle.ws_trace.proofs.extended_record.apply_elements.Given as goal

-- the elements so far are carried out
abbrev pub invariant-loop-element : goal.invariant-loop-element
invariant-loop-element l = CarriedUpTo l.fn.display l.display l.elements (drop l.element-index l.elements)
