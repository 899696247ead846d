use Rattle.std.proofs.Common.{ℕ, List, refl, sym, subst}
use Rattle.ws_code.specs.Code.{IsUnfinished}
use Rattle.ws_code.proofs.RunLaws.{is_between}
use Rattle.ws_stream.specs.ElementLaws.{element_begins}
use Rattle.ws_stream.specs.Elements.{element_rules}
use Rattle.rows_display.proofs.screens.first_element.Goals as goal

pub run-run-requires : goal.run-run-requires
run-run-requires c =
    let place = c.start-machine.result.place in
    let unfinished = subst (λ (x : List ℕ). IsUnfinished element_rules place x) (sym c.start-machine.ensures.fresh)
    (element_begins place) in
    is_between element_rules _ _ unfinished (sym c.start-machine.ensures.place) refl c.start-machine.ensures.fresh
