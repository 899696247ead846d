use Rattle.ws_session.proofs.Common.{◌≤◌, ℕ, take, length, ◌-◌, Gave}
use Rattle.ws_session.proofs.world.carrying.carry.Given as goal

-- the bytes went out, and what stands before the place was read
abbrev pub invariant-loop-at : goal.invariant-loop-at
invariant-loop-at g l = record {
  within : l.at ≤ length l.taken;
  gave : (reads : ℕ) × (reads ≤ l.at) × Gave g.R.Source.reader l.fn.source l.source reads
      (take l.at l.taken);
}

abbrev pub decreases-loop-at : goal.decreases-loop-at
decreases-loop-at g l = length l.taken - l.at
