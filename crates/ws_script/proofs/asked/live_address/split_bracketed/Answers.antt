use Rattle.std.proofs.Common.{sym, ◌∙◌, subst}
use Rattle.ws_script.specs.asked.Addresses.{IsV6}
use Rattle.ws_script.proofs.AddressTexts.{no_behind, same_cut, unbracketed}
use Rattle.ws_script.proofs.asked.live_address.split_bracketed.Goals as goal

pub returns-in_default : goal.returns-in_default
returns-in_default c host port b = unbracketed _ _ _ b c.in_default.ensures

pub returns-then-not-is_ipv6 : goal.returns-then-not-is_ipv6
returns-then-not-is_ipv6 c host port b = (rw c.if-not-is_ipv6.true at c.is_ipv6.ensures) (subst IsV6
    (sym (same_cut _ _ _ b _ _ c.in-Some.ensures.0 c.in-Some.ensures.1).0) b.address)

pub returns-in-None : goal.returns-in-None
returns-in-None c host port b = no_behind _ port (sym c.is_empty.ensures ∙ c.if-is_empty.false) c.in-None.ensures
    (same_cut _ _ _ b _ _ c.in-Some.ensures.0 c.in-Some.ensures.1).1
