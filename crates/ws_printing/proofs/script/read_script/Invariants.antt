use Rattle.ws_printing.proofs.Common.{length}
use Rattle.ws_printing.proofs.Scripts.{Reads}
use Rattle.ws_printing.proofs.script.read_script.Given as goal

abbrev pub invariant-loop-rest : goal.invariant-loop-rest
invariant-loop-rest l = Reads l.text l.rest l.moves.items l.number

abbrev pub decreases-loop-rest : goal.decreases-loop-rest
decreases-loop-rest l = length l.rest
