use Rattle.std.proofs.Common.{◌≡◌, [], ◌∷◌, false, not, arith, sym, ap, ◌∙◌, refl}
use Rattle.ws_keys.specs.Contents.{is_signed}
use Rattle.ws_keys.specs.Edits.{after_minus}
use Rattle.ws_keys.specs.Keys.{next_field, of_open}
use Rattle.ws_keys.specs.declared.key.KeyRefusal.TheVariants.{WrongCharacter}
use Rattle.ws_keys.proofs.StepLemmas.{cursor_in, past_open, past_test, edited_to}
use Rattle.ws_keys.proofs.field_keys.exit_with_minus.Goals as goal

pub change_field-requires-clause-asked : goal.change_field-requires-clause-asked
change_field-requires-clause-asked c =
    let inside = cursor_in c.args.screen.now c.in_ok-field.field c.in_ok-field.ensures.1 in
    omega (arith, inside.0, inside.1)

pub returns : goal.returns
returns c =
    let s = c.args.screen.now in
    let f = c.in_ok-field.field in
    let signed : not (is_signed f) ≡ false = ap not (sym c.is_signed.ensures ∙ c.if-not-is_signed.false) in (
      past_open s f ((of_open s (λ f. not (is_signed f)), WrongCharacter) ∷ []) c.in_ok-field.ensures.0
          c.in_ok-field.ensures.1
          ∙ past_test s f (λ f. not (is_signed f)) WrongCharacter [] c.in_ok-field.ensures.1 signed,
      edited_to s c.change_field.new.screen f (λ f x i. after_minus f.format x i) (λ f. next_field s) _
          c.in_ok-field.ensures.1 c.next_field-to.ensures c.change_field.ensures,
      refl,
    )
