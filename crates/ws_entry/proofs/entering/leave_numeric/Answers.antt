use Rattle.std.proofs.Common.{◌≡◌, ◌-◌, [], ◌∷◌, false, not, arith, sym, ap, ◌∙◌, refl}
use Rattle.ws_screen.specs.Keyed.{after_edit, field_edit, cells_of}
use Rattle.ws_keys.specs.Edits.{after_exit}
use Rattle.ws_keys.specs.Keys.{next_field, of_open}
use Rattle.ws_keys.specs.declared.key.KeyRefusal.TheVariants.{WrongCharacter}
use Rattle.ws_keys.proofs.StepLemmas.{cursor_in, past_open, past_test, edited_to}
use Rattle.ws_entry.specs.EntryRules.{minus_before, takes_minus}
use Rattle.ws_entry.proofs.entering.leave_numeric.Goals as goal

pub overflow_sub-at : goal.overflow_sub-at
overflow_sub-at c =
    let inside = cursor_in c.args.screen.now c.in_ok-field.field c.in_ok-field.ensures.1 in
    omega (arith, inside.0, c.place.ensures.value, c.place-2.ensures.value, c.cursor.ensures)

pub takes_minus-requires-clause-inside : goal.takes_minus-requires-clause-inside
takes_minus-requires-clause-inside c =
    let inside = cursor_in c.args.screen.now c.in_ok-field.field c.in_ok-field.ensures.1 in
    omega (arith, inside.0, inside.1, c.place.ensures.value, c.place-2.ensures.value, c.cursor.ensures)

pub edit_field-requires-clause-asked : goal.edit_field-requires-clause-asked
edit_field-requires-clause-asked c =
    let inside = cursor_in c.args.screen.now c.in_ok-field.field c.in_ok-field.ensures.1 in
    omega (arith, inside.0, inside.1, c.place.ensures.value, c.place-2.ensures.value, c.cursor.ensures)

pub returns : goal.returns
returns c =
    let s = c.args.screen.now in
    let f = c.in_ok-field.field in
    let at : c.place.result - c.place-2.result ≡ s.cursor - f.start =
    omega (arith, c.place.ensures.value, c.place-2.ensures.value, c.cursor.ensures) in
    let takes : not (takes_minus f (cells_of s f) (s.cursor - f.start)) ≡ false =
    ap (λ k. not (takes_minus f (cells_of s f) k)) (sym at)
    ∙ ap not (sym c.takes_minus.ensures ∙ c.if-not-takes_minus.false) in (
      past_open s f ((of_open s (λ f. not (takes_minus f (cells_of s f) (s.cursor - f.start))), WrongCharacter) ∷ [])
          c.in_ok-field.ensures.0 c.in_ok-field.ensures.1
          ∙ past_test s f (λ f. not (takes_minus f (cells_of s f) (s.cursor - f.start))) WrongCharacter []
          c.in_ok-field.ensures.1 takes,
      edited_to s _ f (λ f x i. after_exit f.format (minus_before x i) i) (λ f. next_field s) _
          c.in_ok-field.ensures.1 c.next_field-to.ensures
          (c.edit_field.ensures.exact ∙ ap (λ k. after_edit (field_edit f
          (after_exit f.format (minus_before (cells_of s f) k) k) c.next_field-to.result) s) at),
      refl,
    )
