use Rattle.ws_printing.proofs.Common.{◌≡◌, ◌+◌, ◌<◌, ◌^◌, ◌++◌, ℕ, List, length, Counts}
use Rattle.ws_printing.proofs.check.Checker.take.Given as goal

-- the bytes before, and those of the piece so far, lead to the decoder and the tally
abbrev pub invariant-loop-rest : goal.invariant-loop-rest
invariant-loop-rest g l = (bytes : List ℕ) → Counts g.B.Code.rules l.fn.self.live l.fn.self.tally bytes
    → length bytes + length l.piece < 2 ^ 64
    → (so_far : List ℕ) × Counts g.B.Code.rules l.self.live l.self.tally so_far × (so_far ++ l.rest ≡ bytes ++ l.piece)

abbrev pub decreases-loop-rest : goal.decreases-loop-rest
decreases-loop-rest g l = length l.rest
