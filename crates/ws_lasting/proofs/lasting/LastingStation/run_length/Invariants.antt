use Rattle.ws_lasting.proofs.Common.{take, ArePlain}
use Rattle.ws_lasting.proofs.lasting.LastingStation.run_length.Given as goal

-- no byte so far is FF
abbrev pub invariant-loop-index : goal.invariant-loop-index
invariant-loop-index g l = ArePlain (take l.index l.piece)
