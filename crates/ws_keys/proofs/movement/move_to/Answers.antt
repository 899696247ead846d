use Rattle.std.proofs.Common.{◌≡◌, Some, None, ap, refl, false, if◌then◌else◌, rules}
use Rattle.ws_keys.specs.declared.key.KeyRefusal.TheVariants.{Locked}
use Rattle.ws_keys.proofs.StepLemmas.{moved_is}
use Rattle.ws_keys.proofs.movement.move_to.Goals as goal

pub returns : goal.returns
returns c =
    let unlocked : c.args.screen.now.locked ≡ false = cc in (
      ap (λ t. if t then Some Locked else None) unlocked,
      moved_is c.args.screen.now _ c.args.to (cc) (search rules),
      refl,
    )
