use Rattle.ws_code.specs.Code.{IsUnfinished}
use Rattle.ws_stream.specs.Elements.{element_rules}
use Rattle.ws_stream.specs.UnfinishedElement.{unfinished_of}
use Rattle.rows_wire.proofs.element_rows.spelled_again.Given as goal

abbrev pub invariant-loop-byte : goal.invariant-loop-byte
invariant-loop-byte l = IsUnfinished element_rules l.machine.place (unfinished_of l.machine)
