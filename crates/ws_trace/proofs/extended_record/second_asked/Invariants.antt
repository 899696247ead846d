use Rattle.ws_trace.proofs.Common.{drop}
use Rattle.ws_trace.proofs.ExtendedRecords.{AskedUpTo}
use Rattle.ws_trace.proofs.extended_record.second_asked.Given as goal

-- what the elements so far ask
abbrev pub invariant-loop-element : goal.invariant-loop-element
invariant-loop-element l = AskedUpTo l.is_asked l.elements (drop l.element-index l.elements)
