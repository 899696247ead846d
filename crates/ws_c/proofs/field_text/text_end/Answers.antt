use Rattle.ws_keys.proofs.ContentLemmas.{trimmed_step}
use Rattle.ws_c.proofs.field_text.text_end.Goals as goal

pub loop-at-preserved : goal.loop-at-preserved
loop-at-preserved c = rw c.end_after-end.ensures
    (trimmed_step c.args.cells.now c.loop-at.at 0 c.loop-at.end c.loop-at-test.true c.loop-at.invariant.0
    c.loop-at.invariant.1)
