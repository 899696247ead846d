use Rattle.ws_record.proofs.Common.{ℕ, List, ◌++◌, take, ◌<◌, length, ◌≤◌, ◌+◌, ◌^◌, ◌-◌, HasReceived, Item}
use Rattle.ws_record.proofs.Lives.{IsHeld}
use Rattle.ws_record.proofs.receiver.Receiver.feed.Given as goal

-- the bytes so far lead to the receiver, with the same items
abbrev pub invariant-loop-used : goal.invariant-loop-used
invariant-loop-used g l = (l.used ≤ length l.piece)
    × ((bytes : List ℕ) (items : List (Item g.row.B-Unit.Denot)) → HasReceived g.B.Code.rules l.fn.self bytes items
    → length bytes + length l.piece + 1 < 2 ^ 64
    → HasReceived g.B.Code.rules l.self (bytes ++ take l.used l.piece) items
    × ((n : ℕ) → n ≤ l.used → IsHeld g.B.Code.rules items (bytes ++ take n l.piece)))

abbrev pub decreases-loop-used : goal.decreases-loop-used
decreases-loop-used g l = length l.piece - l.used
