use Rattle.ws_trace.proofs.Common.{◌≡◌, take, sent_by_end}
use Rattle.ws_trace.proofs.piece.stream_of.Given as goal

-- what the end sent by the pieces so far
abbrev pub invariant-loop-piece : goal.invariant-loop-piece
invariant-loop-piece l = l.stream.items ≡ sent_by_end l.end (take l.piece-index l.pieces)
