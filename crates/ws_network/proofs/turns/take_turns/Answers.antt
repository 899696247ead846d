use Rattle.std.proofs.Common.{◌≡◌, ◌++◌, ◌-◌, ◌∙◌, ap, arith, drop, length, subst, take}
use Rattle.ws_network.specs.Turns.{turns}
use Rattle.ws_network.proofs.Turning.{cut_follows}
use Rattle.ws_network.proofs.turns.take_turns.Goals as goal

pub returns : goal.returns
returns c =
    let one = c.args.one.now in
    let other = c.args.other.now in
    let order = c.loop-at.order.items in
    let shared = c.min-shared.result in
    let over : c.loop-at.at ≡ shared = omega (arith, c.loop-at-test.false, c.loop-at.auto.at-end) in
    c.in_ok-extend_from_slice-2.ensures.items
    ∙ ap (λ z. z ++ take (length other - shared) (drop shared other)) c.in_ok-extend_from_slice.ensures.items
    ∙ cut_follows one other order shared c.min-shared.ensures
    (subst (λ n. order ++ turns (drop n one) (drop n other) ≡ turns one other) over c.loop-at.invariant)
