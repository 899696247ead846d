use Rattle.ws_record.proofs.Common.{ℕ, List, ◌++◌, take, ◌<◌, length, ◌≤◌, ◌+◌, ◌^◌, ◌-◌, HasReceived}
use Rattle.ws_record.proofs.receiver.Receiver.take_all.Given as goal

-- the bytes so far lead to the receiver
abbrev pub invariant-loop-used : goal.invariant-loop-used
invariant-loop-used g l = (l.used ≤ length l.piece)
    × ((bytes : List ℕ) → HasReceived g.B.Code.rules l.fn.self bytes l.fn.items.items
    → length bytes + length l.piece + 1 < 2 ^ 64
    → HasReceived g.B.Code.rules l.self (bytes ++ take l.used l.piece) l.items.items)

abbrev pub decreases-loop-used : goal.decreases-loop-used
decreases-loop-used g l = length l.piece - l.used
