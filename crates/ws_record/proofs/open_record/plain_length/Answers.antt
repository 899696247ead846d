use Rattle.ws_record.proofs.Common.{arith, take_more, AllByRecursion-append}
use Rattle.ws_record.proofs.open_record.plain_length.Goals as goal

pub loop-index-preserved : goal.loop-index-preserved
loop-index-preserved c = (
  omega (arith, c.loop-index.invariant.0, c.if-index-most.false),
  rw (take_more c.args.piece.now c.loop-index.index 0 c.loop-index-test.true)
      (AllByRecursion-append _ _ _ c.loop-index.invariant.1 (c.if-byte.false, tt)),
)
