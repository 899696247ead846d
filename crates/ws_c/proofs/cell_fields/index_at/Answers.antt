use Rattle.std.proofs.Common.{arith}
use Rattle.ws_c.proofs.FieldIndex.{before_ahead}
use Rattle.ws_c.proofs.cell_fields.index_at.Goals as goal

pub returns-in_default-2 : goal.returns-in_default-2
returns-in_default-2 c = before_ahead c.args.ahead.now c.args.index c.args.place c.field-item.result
    c.requires.in_order c.in-len1-up.len_at_least c.field-item.is (omega (arith, c.if-place.false))
