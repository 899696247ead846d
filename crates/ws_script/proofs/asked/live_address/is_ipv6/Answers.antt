use Rattle.ws_script.proofs.AddressTexts.{no_percent, v6_parts, zone_tells}
use Rattle.ws_script.proofs.asked.live_address.is_ipv6.Goals as goal

pub returns-then-is_plain_ipv6-2 : goal.returns-then-is_plain_ipv6-2
returns-then-is_plain_ipv6-2 c = zone_tells c.args.text.now (rw c.if-is_plain_ipv6.false at c.is_plain_ipv6.ensures) _ _
    c.in-Some.ensures.0 c.in-Some.ensures.1 c.is_zone.result c.is_zone.ensures
    (rw c.if-is_plain_ipv6-2.true at c.is_plain_ipv6-in-Some.ensures)

pub returns-else-is_plain_ipv6-2 : goal.returns-else-is_plain_ipv6-2
returns-else-is_plain_ipv6-2 c = rw c.if-is_plain_ipv6-2.false (λ v.
    (rw c.if-is_plain_ipv6-2.false at c.is_plain_ipv6-in-Some.ensures) (v6_parts c.args.text.now
    (rw c.if-is_plain_ipv6.false at c.is_plain_ipv6.ensures) _ _ c.in-Some.ensures.0 c.in-Some.ensures.1 v).0)

pub returns-in-None : goal.returns-in-None
returns-in-None c =
    no_percent c.args.text.now (rw c.if-is_plain_ipv6.false at c.is_plain_ipv6.ensures) c.in-None.ensures
