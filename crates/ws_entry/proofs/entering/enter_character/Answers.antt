use Rattle.std.proofs.Common.{◌-◌, [], ◌∷◌, arith, ap, ◌∙◌, refl}
use Rattle.ws_screen.specs.Keyed.{after_edit, field_edit, cells_of}
use Rattle.ws_keys.specs.Edits.{with_byte_at}
use Rattle.ws_keys.specs.Keys.{forbids, of_open, byte_entered}
use Rattle.ws_keys.specs.declared.key.KeyRefusal.TheVariants.{WrongCharacter}
use Rattle.ws_keys.proofs.StepLemmas.{cursor_in, past_open, past_test, edited_to}
use Rattle.ws_entry.specs.EntryRules.{after_entry}
use Rattle.ws_entry.proofs.entering.enter_character.Goals as goal

pub change_field-requires-clause-asked : goal.change_field-requires-clause-asked
change_field-requires-clause-asked c =
    let inside = cursor_in c.args.screen.now c.in_ok-field.field c.in_ok-field.ensures.1 in
    (omega (arith, inside.0, inside.1), c.in_ok-byte.ensures.2)

pub returns : goal.returns
returns c =
    let s = c.args.screen.now in
    let f = c.in_ok-field.field in (
      past_open s f ((of_open s (forbids s c.args.character), WrongCharacter) ∷ []) c.in_ok-field.ensures.0
          c.in_ok-field.ensures.1
          ∙ past_test s f (forbids s c.args.character) WrongCharacter [] c.in_ok-field.ensures.1 c.in_ok-byte.ensures.0,
      edited_to s c.change_field.new.screen f (λ f x i. with_byte_at x i (byte_entered f c.args.character))
          (after_entry s) _ c.in_ok-field.ensures.1 c.after_entry-to.ensures
          (c.change_field.ensures ∙ ap
          (λ b. after_edit (field_edit f (with_byte_at (cells_of s f) (s.cursor - f.start) b)
          c.after_entry-to.result) s) c.in_ok-byte.ensures.1),
      refl,
    )
