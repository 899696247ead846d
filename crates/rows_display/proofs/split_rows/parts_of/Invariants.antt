use Rattle.std.proofs.Common.{length}
use Rattle.rows_display.proofs.split_rows.parts_of.Given as goal

abbrev pub decreases-loop-rt : goal.decreases-loop-rt
decreases-loop-rt g l = length l.rest
