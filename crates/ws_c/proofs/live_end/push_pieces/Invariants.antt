use Rattle.std.proofs.Common.{◌-◌, length}
use Rattle.ws_c.proofs.PieceLaws.{Pushing}
use Rattle.ws_c.proofs.live_end.push_pieces.Given as goal

abbrev pub invariant-loop-told : goal.invariant-loop-told
invariant-loop-told g l = Pushing g.E.End.behaviour g.E.End.written l.fn.held l.held l.bytes l.fn.buffer
    l.buffer l.told

abbrev pub decreases-loop-told : goal.decreases-loop-told
decreases-loop-told g l = length l.bytes - l.told.taken
