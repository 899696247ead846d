use Rattle.ws_record.proofs.Common.{ap, length, arith, length_through}
use Rattle.ws_record.proofs.item_writer.body_length.Goals as goal

pub returns-then-length-gt65525-clause-none : goal.returns-then-length-gt65525-clause-none
returns-then-length-gt65525-clause-none g c =
    let longer = length_through g.B.Code.rules.spelling _ _ _ c.loop-unit-test.true c.unit-item.is in
    omega (arith, longer, ap length c.spell.ensures)
