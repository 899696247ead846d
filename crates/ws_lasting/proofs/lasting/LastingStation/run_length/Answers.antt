use Rattle.ws_lasting.proofs.Common.{take_more, AllByRecursion-append}
use Rattle.ws_lasting.proofs.lasting.LastingStation.run_length.Goals as goal

pub loop-index-preserved : goal.loop-index-preserved
loop-index-preserved g c = rw (take_more c.args.piece.now c.loop-index.index 0 c.loop-index-test.true)
    (AllByRecursion-append _ _ _ c.loop-index.invariant (c.if-byte.false, tt))
