use Rattle.std.proofs.Common.{length}
use Rattle.ws_program.proofs.Pieces.{PiecesSoFar}
use Rattle.ws_program.proofs.traced.recorded_pieces.Given as goal

abbrev pub invariant-loop-rest : goal.invariant-loop-rest
invariant-loop-rest l = PiecesSoFar l.text l.rest l.number l.pieces.items

abbrev pub decreases-loop-rest : goal.decreases-loop-rest
decreases-loop-rest l = length l.rest
