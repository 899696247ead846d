use Rattle.ws_record.proofs.Common.{take, ◌≤◌, ArePlain}
use Rattle.ws_record.proofs.open_record.plain_length.Given as goal

abbrev pub invariant-loop-index : goal.invariant-loop-index
invariant-loop-index l = (l.index ≤ l.most) × ArePlain (take l.index l.piece)
