use Rattle.ws_code.specs.Code.{IsUnfinished}
use Rattle.ws_stream.specs.AnswerMachine.{begun_in, place_in}
use Rattle.ws_stream.specs.AnswerParts.{answer_rules}
use Rattle.rows_wire.proofs.answer_part_rows.answer_to.Given as goal

abbrev pub invariant-loop-at : goal.invariant-loop-at
invariant-loop-at l = IsUnfinished answer_rules (place_in l.machine.phase) (begun_in l.machine.phase)
