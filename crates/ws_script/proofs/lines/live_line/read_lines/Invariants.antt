use Rattle.std.proofs.Common.{length}
use Rattle.ws_script.proofs.LiveScripts.{Reads}
use Rattle.ws_script.proofs.lines.live_line.read_lines.Given as goal

-- the lines so far
abbrev pub invariant-loop-rest : goal.invariant-loop-rest
invariant-loop-rest g l = Reads g.L.LiveLine.language l.text l.rest l.read.items l.number

abbrev pub decreases-loop-rest : goal.decreases-loop-rest
decreases-loop-rest g l = length l.rest
