use Rattle.std.proofs.Common.{Some, None, sym, ap, ◌∙◌, refl, if◌then◌else◌}
use Rattle.ws_keys.specs.declared.key.KeyRefusal.TheVariants.{Locked}
use Rattle.ws_keys.proofs.field_keys.erase_input.Goals as goal

pub returns : goal.returns
returns c = (
  ap (λ t. if t then Some Locked else None) (sym c.locked.ensures ∙ c.if-locked.false),
  c.erase_input.ensures.exact,
  refl,
)
