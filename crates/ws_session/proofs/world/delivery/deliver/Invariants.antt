use Rattle.ws_session.proofs.Common.{◌≡◌, ◌+◌, ℕ, min, length, ◌-◌, AreDelivered, at_end}
use Rattle.ws_session.proofs.world.delivery.deliver.Given as goal

abbrev pub decreases-loop-left : goal.decreases-loop-left
decreases-loop-left g l = l.left

-- so many bytes have come
abbrev pub invariant-loop-left : goal.invariant-loop-left
invariant-loop-left g l = record {
  gone : ℕ;
  all : gone + l.left ≡ min l.count (length l.fn.from.bytes - l.fn.from.at);
  come : AreDelivered g.E.End.behaviour g.E.Reported.telling
      (at_end l.fn.end l.fn.from l.fn.to l.fn.events.items) gone (at_end l.end l.from l.to l.events.items);
}
