use Rattle.std.proofs.Common.{ℕ, List, sym, subst}
use Rattle.ws_code.specs.Code.{IsUnfinished}
use Rattle.ws_stream.specs.ElementLaws.{element_begins}
use Rattle.ws_stream.specs.Elements.{element_rules}
use Rattle.rows_wire.proofs.element_rows.answer_to.Goals as goal

pub loop-at-init : goal.loop-at-init
loop-at-init c = subst (λ (l : List ℕ). IsUnfinished element_rules c.start-machine.result.place l)
    (sym c.start-machine.ensures.fresh) (element_begins c.start-machine.result.place)
