use Rattle.std.proofs.Common.{ℕ, List, sym, subst}
use Rattle.ws_code.specs.Code.{IsUnfinished}
use Rattle.ws_stream.specs.AnswerLaws.{part_begins}
use Rattle.ws_stream.specs.AnswerMachine.{place_in}
use Rattle.ws_stream.specs.AnswerParts.{answer_rules}
use Rattle.rows_display.proofs.split_rows.first_part.Goals as goal

pub loop-at-init : goal.loop-at-init
loop-at-init c = subst (λ (l : List ℕ). IsUnfinished answer_rules (place_in c.start-machine.result.phase) l)
    (sym c.start-machine.ensures.fresh) (part_begins (place_in c.start-machine.result.phase))
