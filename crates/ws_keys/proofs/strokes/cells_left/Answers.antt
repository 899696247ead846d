use Rattle.std.proofs.Common.{arith}
use Rattle.ws_screen.proofs.EditLemmas.{open_within}
use Rattle.ws_keys.proofs.StepLemmas.{cursor_in}
use Rattle.ws_keys.proofs.strokes.cells_left.Goals as goal

pub overflow_add-result : goal.overflow_add-result
overflow_add-result c =
    let within = open_within c.args.screen.now c.args.field.now c.known.ensures.legal c.requires in
    omega (arith, within.1)

pub overflow_sub-result : goal.overflow_sub-result
overflow_sub-result c =
    let inside = cursor_in c.args.screen.now c.args.field.now c.requires in
    omega (arith, inside.1)
