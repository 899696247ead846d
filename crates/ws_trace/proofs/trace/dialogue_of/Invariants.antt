use Rattle.ws_trace.proofs.Common.{take}
use Rattle.ws_trace.proofs.BothTraced.{AreTraced}
use Rattle.ws_trace.proofs.trace.dialogue_of.Given as goal

-- the pieces so far are traced
abbrev pub invariant-loop-piece : goal.invariant-loop-piece
invariant-loop-piece l = AreTraced (take l.piece-index l.pieces) l.entries.items l.host l.station
