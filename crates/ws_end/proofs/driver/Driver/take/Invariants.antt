use Rattle.std.proofs.Common.{length, ◌-◌, ◌≡◌, ◌≤◌, ◌+◌, ◌++◌, List, ℕ, None, take}
use Rattle.ws_end.specs.driver.Driven.{DriverTakes, driving}
use Rattle.ws_end.proofs.driver.Driver.take.Given as goal

-- the bytes so far brought nothing, so that what follows them is all that comes of the piece
abbrev pub invariant-loop-used : goal.invariant-loop-used
invariant-loop-used g l =
    let d = driving g.R.Body.Code.rules g.R.Collector.Keep.keeper g.R.Reacts.does in
    (l.used ≤ length l.piece) × (l.self.ended ≡ None) × (l.self.live.taken ≡ l.fn.self.live.taken + l.used)
    × ((new : _) (more : List ℕ) (result : _) → DriverTakes d l.self more new result
    → DriverTakes d l.fn.self (take l.used l.piece ++ more) new result)
    × (l.used ≡ 0 → l.self.reacts ≡ l.fn.self.reacts)

abbrev pub decreases-loop-used : goal.decreases-loop-used
decreases-loop-used g l = length l.piece - l.used
