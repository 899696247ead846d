use Rattle.std.proofs.Common.{[], arith, refl}
use Rattle.ws_keys.specs.Edits.{after_exit}
use Rattle.ws_keys.specs.Keys.{next_field}
use Rattle.ws_keys.proofs.StepLemmas.{cursor_in, past_open, edited_to}
use Rattle.ws_keys.proofs.field_keys.exit_field.Goals as goal

pub change_field-requires-clause-asked : goal.change_field-requires-clause-asked
change_field-requires-clause-asked c =
    let inside = cursor_in c.args.screen.now c.in_ok-field.field c.in_ok-field.ensures.1 in
    omega (arith, inside.0, inside.1)

pub returns : goal.returns
returns c =
    let s = c.args.screen.now in
    let f = c.in_ok-field.field in (
      past_open s f [] c.in_ok-field.ensures.0 c.in_ok-field.ensures.1,
      edited_to s c.change_field.new.screen f (λ f x i. after_exit f.format x i) (λ f. next_field s) _
          c.in_ok-field.ensures.1 c.next_field-to.ensures c.change_field.ensures,
      refl,
    )
