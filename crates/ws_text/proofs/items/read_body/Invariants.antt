use Rattle.std.proofs.Common.{length}
use Rattle.ws_text.proofs.LinesRead.{BodySoFar}
use Rattle.ws_text.proofs.items.read_body.Given as goal

abbrev pub invariant-loop-rest : goal.invariant-loop-rest
invariant-loop-rest g l = BodySoFar g.B.Code.rules g.B.Worded.wording l.fn.opcode l.begun l.text l.rest l.number

abbrev pub decreases-loop-rest : goal.decreases-loop-rest
decreases-loop-rest g l = length l.rest
