use Rattle.std.proofs.Common.{◌≡◌, ◌-◌, arith, ap, ◌∙◌}
use Rattle.ws_screen.specs.Keyed.{after_edit, field_edit, cells_of}
use Rattle.ws_keys.specs.Changes.{after_change}
use Rattle.ws_keys.proofs.StepLemmas.{cursor_in}
use Rattle.ws_keys.proofs.field_keys.change_field.Goals as goal

pub overflow_sub-edit : goal.overflow_sub-edit
overflow_sub-edit c =
    let inside = cursor_in c.args.screen.now c.args.field.now c.requires.open_ in
    omega (arith, inside.0, c.place.ensures.value, c.place-2.ensures.value, c.cursor.ensures)

pub returns : goal.returns
returns c =
    let s = c.args.screen.now in
    let f = c.args.field.now in
    let at : c.place.result - c.place-2.result ≡ s.cursor - f.start =
    omega (arith, c.place.ensures.value, c.place-2.ensures.value, c.cursor.ensures) in
    c.edit_field.ensures.exact
    ∙ ap (λ k. after_edit (field_edit f (after_change c.args.change f.format (cells_of s f) k) c.args.to) s) at
