use Rattle.ws_script.proofs.NearestWords.{NearSoFar}
use Rattle.ws_script.proofs.cause.nearest.nearest.Given as goal

abbrev pub invariant-loop-known : goal.invariant-loop-known
invariant-loop-known l = NearSoFar l.fn.vocabulary l.known-items l.fn.word l.known-index l.below l.found
