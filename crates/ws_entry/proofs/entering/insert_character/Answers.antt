use Rattle.std.proofs.Common.{◌≡◌, ◌-◌, [], ◌∷◌, false, not, arith, sym, ap, ◌∙◌, refl}
use Rattle.ws_screen.specs.Keyed.{after_edit, field_edit, cells_of}
use Rattle.ws_keys.specs.Edits.{after_insert}
use Rattle.ws_keys.specs.Keys.{forbids, of_open, byte_entered}
use Rattle.ws_keys.specs.declared.key.KeyRefusal.TheVariants.{WrongCharacter, NoRoom}
use Rattle.ws_keys.proofs.StepLemmas.{cursor_in, past_open, past_test, edited_to, before_sign}
use Rattle.ws_entry.specs.EntryRules.{after_entry, has_room}
use Rattle.ws_entry.proofs.entering.insert_character.Goals as goal

pub change_field-requires-clause-asked : goal.change_field-requires-clause-asked
change_field-requires-clause-asked c =
    let s = c.args.screen.now in
    let f = c.in_ok-field.field in
    let inside = cursor_in s f c.in_ok-field.ensures.1 in (
      omega (arith, inside.0, inside.1),
      c.in_ok-byte.ensures.2,
      λ signed. before_sign s f c.args.character inside.0 inside.1 c.in_ok-byte.ensures.0 signed,
    )

pub returns : goal.returns
returns c =
    let s = c.args.screen.now in
    let f = c.in_ok-field.field in
    let full : not (has_room s f) ≡ false = ap not (sym c.has_room.ensures ∙ c.if-not-has_room.false) in (
      past_open s f ((of_open s (forbids s c.args.character), WrongCharacter)
          ∷ (of_open s (λ f. not (has_room s f)), NoRoom) ∷ []) c.in_ok-field.ensures.0 c.in_ok-field.ensures.1
          ∙ past_test s f (forbids s c.args.character) WrongCharacter
          ((of_open s (λ f. not (has_room s f)), NoRoom) ∷ []) c.in_ok-field.ensures.1 c.in_ok-byte.ensures.0
          ∙ past_test s f (λ f. not (has_room s f)) NoRoom [] c.in_ok-field.ensures.1 full,
      edited_to s c.change_field.new.screen f (λ f x i. after_insert f.format x i (byte_entered f c.args.character))
          (after_entry s) _ c.in_ok-field.ensures.1 c.after_entry-to.ensures
          (c.change_field.ensures ∙ ap
          (λ b. after_edit (field_edit f (after_insert f.format (cells_of s f) (s.cursor - f.start) b)
          c.after_entry-to.result) s) c.in_ok-byte.ensures.1),
      refl,
    )
