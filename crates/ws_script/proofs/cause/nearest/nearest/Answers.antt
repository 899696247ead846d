use Rattle.std.proofs.Common.{[]}
use Rattle.ws_script.proofs.NearestWords.{nearer, nearest_of_all, no_nearer}
use Rattle.ws_script.proofs.cause.nearest.nearest.Goals as goal
use Rattle.ws_script.proofs.cause.nearest.nearest.Goals.{then-differs-below, else-differs-below}

pub loop-known-preserved : goal.loop-known-preserved
loop-known-preserved c =
    let of = c.words_of-known-items.ensures in
    let differs = c.in_ok-differs.ensures in
    elim c.if-differs-below.branch [
      | then-differs-below w ↦ rw (w.found-is, w.below-is, differs) (nearer _ _ of _ _ _ _ c.loop-known.invariant _
          c.loop-known-test.true (rw differs at w.if-differs-below.true))
      | else-differs-below w ↦ rw (w.found-is, w.below-is) (no_nearer _ _ of _ _ _ _ c.loop-known.invariant _
          (rw differs at w.if-differs-below.false))
    ]

pub returns : goal.returns
returns c = nearest_of_all _ _ c.words_of-known-items.ensures _ _ _ _ c.loop-known.invariant
    (record { ref_ptr = (0, 0); now = [] }, record { ref_ptr = (0, 0); now = [] }) c.loop-known-test.false
    (rw c.characters-length.ensures at c.if-length-gt-LONGEST.false)
