use Rattle.ws_end.proofs.Common.{◌+◌, ◌≤◌, List, ◌++◌, ℕ, ◌<◌, take, ◌^◌, length, ◌-◌, TerminalType, Item, Element}
use Rattle.ws_end.proofs.Common.{HaveBroughtPlayer}
use Rattle.ws_end.proofs.attached.player.Player.take_all.Given as goal
use Rattle.ws_end.specs.attached.StationRun.{schedule, outflow}

-- the bytes so far have brought the player here
abbrev pub invariant-loop-used : goal.invariant-loop-used
invariant-loop-used g l = (l.used ≤ length l.piece)
    × ((start : g.row.S.Denot) (t : TerminalType) (bytes : List ℕ) (items : List (Item Element))
    → HaveBroughtPlayer (schedule t l.keys) (outflow g.S.Sink.writer start l.fn.sink) l.fn.self bytes items
    → length bytes + length l.piece + 1 < 2 ^ 64 → (next : List (Item Element))
    × HaveBroughtPlayer (schedule t l.keys) (outflow g.S.Sink.writer start l.sink) l.self (bytes ++ take l.used l.piece)
    next)

abbrev pub decreases-loop-used : goal.decreases-loop-used
decreases-loop-used g l = length l.piece - l.used
