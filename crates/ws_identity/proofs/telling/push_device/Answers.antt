use Rattle.std.proofs.Common.{◌≡◌, ℕ, List, true, subst}
use Rattle.ws_identity.specs.Names.{is_device_name}
use Rattle.ws_identity.proofs.Plain.{named_plain}
use Rattle.ws_identity.proofs.telling.push_device.Goals as goal

pub returns-in-Some-clause-plain : goal.returns-in-Some-clause-plain
returns-in-Some-clause-plain c = named_plain c.args.named c.args.device.now _ c.in-Some.is
    (subst (λ (n : List ℕ). is_device_name n ≡ true) c.as_slice.ensures.value c.as_slice.ensures.legal)
