use Rattle.std.proofs.Common.{[], refl}
use Rattle.ws_keys.specs.Keys.{next_field}
use Rattle.ws_keys.proofs.StepLemmas.{past_open, edited_to}
use Rattle.ws_entry.specs.EntryRules.{left_full}
use Rattle.ws_entry.proofs.entering.leave_full.Goals as goal

pub returns : goal.returns
returns c =
    let s = c.args.screen.now in
    let f = c.in_ok-field.field in (
      past_open s f [] c.in_ok-field.ensures.0 c.in_ok-field.ensures.1,
      edited_to s _ f (λ f x i. left_full f.format 0x40 x) (λ f. next_field s) _
          c.in_ok-field.ensures.1 c.next_field-to.ensures c.edit_field.ensures.exact,
      refl,
    )
