use Rattle.std.proofs.Common.{◌≡◌, [], ◌∷◌, false, not, arith, ◌∙◌, refl}
use Rattle.ws_code.specs.FormatWord.{is_dup}
use Rattle.ws_keys.specs.Edits.{after_dup}
use Rattle.ws_keys.specs.Keys.{next_field, of_open}
use Rattle.ws_keys.specs.declared.key.KeyRefusal.TheVariants.{DupNotAllowed}
use Rattle.ws_keys.proofs.StepLemmas.{cursor_in, past_open, past_test, edited_to}
use Rattle.ws_keys.proofs.field_keys.dup.Goals as goal

pub change_field-requires-clause-asked : goal.change_field-requires-clause-asked
change_field-requires-clause-asked c =
    let inside = cursor_in c.args.screen.now c.in_ok-field.field c.in_ok-field.ensures.1 in
    omega (arith, inside.0, inside.1)

pub returns : goal.returns
returns c =
    let s = c.args.screen.now in
    let f = c.in_ok-field.field in
    let lets : not (is_dup f.format) ≡ false = cc in (
      past_open s f ((of_open s (λ f. not (is_dup f.format)), DupNotAllowed) ∷ []) c.in_ok-field.ensures.0
          c.in_ok-field.ensures.1
          ∙ past_test s f (λ f. not (is_dup f.format)) DupNotAllowed [] c.in_ok-field.ensures.1 lets,
      edited_to s _ f (λ f x i. after_dup x i) (λ f. next_field s) _ c.in_ok-field.ensures.1 (cc)
          c.change_field.ensures,
      refl,
    )
