use Rattle.std.proofs.Common.{◌≡◌, [], ◌∷◌, ◌||◌, false, not, sym, ap, ◌∙◌, refl}
use Rattle.ws_screen.specs.Keyed.{cells_of}
use Rattle.ws_keys.specs.Contents.{is_signed}
use Rattle.ws_keys.specs.Keys.{next_field, of_open}
use Rattle.ws_keys.specs.declared.key.KeyRefusal.TheVariants.{WrongCharacter}
use Rattle.ws_keys.proofs.StepLemmas.{past_open, past_test, edited_to}
use Rattle.ws_entry.specs.EntryRules.{left_full_with_minus, takes_minus}
use Rattle.ws_entry.proofs.entering.leave_full_with_minus.Goals as goal

pub returns : goal.returns
returns c =
    let s = c.args.screen.now in
    let f = c.in_ok-field.field in
    let takes : not (is_signed f || takes_minus f (cells_of s f) f.length) ≡ false =
    ap not (sym c.takes_sign.ensures ∙ c.if-not-takes_sign.false) in (
      past_open s f ((of_open s (λ f. not (is_signed f || takes_minus f (cells_of s f) f.length)), WrongCharacter) ∷ [])
          c.in_ok-field.ensures.0 c.in_ok-field.ensures.1
          ∙ past_test s f (λ f. not (is_signed f || takes_minus f (cells_of s f) f.length)) WrongCharacter []
          c.in_ok-field.ensures.1 takes,
      edited_to s _ f (λ f x i. left_full_with_minus f.format x) (λ f. next_field s) _
          c.in_ok-field.ensures.1 c.next_field-to.ensures c.edit_field.ensures.exact,
      refl,
    )
