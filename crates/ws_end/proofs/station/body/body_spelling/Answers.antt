use Rattle.ws_end.proofs.Common.{ap, arith, length, element_rules}
use Rattle.ws_code.proofs.Lists.{length_through}
use Rattle.ws_end.proofs.station.body.body_spelling.Goals as goal

pub returns-then-room-size-clause-big : goal.returns-then-room-size-clause-big
returns-then-room-size-clause-big c _ =
    let longer = length_through element_rules.spelling c.args.body.now c.loop-element.element-index
    c.element-item.result c.loop-element-test.true c.element-item.is in
    grind (
      arith,
      longer,
      c.loop-element.invariant.left,
      ap length c.spell.ensures,
      ap length c.as_slice-size.ensures.value,
      c.if-room-size.true,
    )
