use Rattle.std.specs.Slice.Iter.{chunks_rest, chunks_size}
use Rattle.ws_printing.proofs.Common.{◌≡◌, ◌++◌, ℕ, List, Counts}
use Rattle.ws_printing.proofs.check.verdict_of.Given as goal

-- the bytes so far lead to the decoder and the tally, and the others are left
abbrev pub invariant-loop-piece : goal.invariant-loop-piece
invariant-loop-piece g l =
    (goal.iterator-loop-piece g).can_next l.piece-iterator
    × (goal.iterator-loop-piece g).is_finite l.piece-iterator
    × (chunks_size l.piece-iterator ≡ l.fn.cut)
    × (before : List ℕ) × Counts g.B.Code.rules l.checker.live l.checker.tally before
    × (before ++ chunks_rest l.piece-iterator ≡ l.fn.bytes)
