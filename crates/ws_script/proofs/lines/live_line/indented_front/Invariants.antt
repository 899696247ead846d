use Rattle.std.proofs.Common.{length}
use Rattle.ws_script.proofs.LiveScripts.{Gathers}
use Rattle.ws_script.proofs.lines.live_line.indented_front.Given as goal

-- the lines so far
abbrev pub invariant-loop-line : goal.invariant-loop-line
invariant-loop-line l = Gathers l.text l.rest l.count

abbrev pub decreases-loop-line : goal.decreases-loop-line
decreases-loop-line l = length l.rest
