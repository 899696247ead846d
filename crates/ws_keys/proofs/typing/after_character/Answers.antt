use Rattle.std.proofs.Common.{◌≢◌, ◌+◌, ◌%◌, ap, arith, ◌∙◌}
use Rattle.std.proofs.lemmas.Grind.{common_steps}
use Rattle.ws_keys.specs.Keys.{last_cell}
use Rattle.ws_keys.proofs.StepLemmas.{next_cell}
use Rattle.ws_keys.proofs.typing.after_character.Goals as goal

pub returns-else-place-last_cell : goal.returns-else-place-last_cell
returns-else-place-last_cell c =
    let ne : c.args.screen.now.cursor ≢ last_cell c.args.field.now =
    omega (arith, c.if-place-last_cell.false, c.place.ensures.value, c.cursor.ensures, c.last_cell.ensures) in
    next_cell c.args.screen.now c.args.field.now c.address_after.result c.requires.open_ c.requires.within ne
    (c.address_after.ensures ∙ ap (λ p. (p + 1) % 1920) c.cursor-else-place-last_cell.ensures)

pub returns-then-place-last_cell : goal.returns-then-place-last_cell
returns-then-place-last_cell c = grind (arith, common_steps)
