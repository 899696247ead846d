use Rattle.std.proofs.Common.{length}
use Rattle.ws_program.proofs.Recordings.{SentSoFar}
use Rattle.ws_program.proofs.recorded.recorded_bytes.Given as goal

abbrev pub invariant-loop-rest : goal.invariant-loop-rest
invariant-loop-rest l = SentSoFar l.end l.text l.rest l.number l.is_whole l.sent.items

abbrev pub decreases-loop-rest : goal.decreases-loop-rest
decreases-loop-rest l = length l.rest
