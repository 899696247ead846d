use Rattle.std.proofs.Common.{subst}
use Rattle.ws_script.specs.asked.Addresses.{HasNo}
use Rattle.ws_script.proofs.AddressTexts.{uncut}
use Rattle.ws_script.proofs.asked.live_address.is_zone.Goals as goal

pub returns-in-Some : goal.returns-in-Some
returns-in-Some c zone = uncut 58 _ _ (subst (HasNo 58) c.in-Some.ensures.0 zone.1)
