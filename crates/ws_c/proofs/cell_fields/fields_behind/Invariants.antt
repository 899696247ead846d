use Rattle.std.proofs.Common.{length}
use Rattle.ws_c.specs.Cells.{IsPast}
use Rattle.ws_c.proofs.cell_fields.fields_behind.Given as goal

abbrev pub invariant-loop-behind : goal.invariant-loop-behind
invariant-loop-behind l = IsPast l.fields l.place l.index l.ahead

abbrev pub decreases-loop-behind : goal.decreases-loop-behind
decreases-loop-behind l = length l.ahead
