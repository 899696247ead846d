use Rattle.ws_lasting.proofs.Common as C
use C.{length, ◌-◌, ◌≤◌, ◌+◌, ◌≡◌, [], None, take, all_came, on_display, LeadsOnFrom, AtLasting, IsRefusalPlaced}
use Rattle.ws_lasting.proofs.lasting.LastingStation.take.Given as goal

-- the bytes so far were taken, where a record is refused among them is known, and nothing was written or told at them
abbrev pub invariant-loop-used : goal.invariant-loop-used
invariant-loop-used g l = let on = on_display g.D.Commands.Code.rules g.D.StationDisplay.does in
    (l.used ≤ length l.piece) × (l.self.taken ≡ l.fn.self.taken + l.used)
    × IsRefusalPlaced l.fn.self l.fn.self.taken l.self None
    × AtLasting on l.fn.self (λ at. LeadsOnFrom on l.fn.self l.self at (all_came (take l.used l.piece)) [] [])

abbrev pub decreases-loop-used : goal.decreases-loop-used
decreases-loop-used g l = length l.piece - l.used
