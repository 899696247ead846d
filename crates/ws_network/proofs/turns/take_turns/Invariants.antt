use Rattle.std.proofs.Common.{◌≡◌, ◌++◌, drop}
use Rattle.ws_network.specs.Turns.{turns}
use Rattle.ws_network.proofs.turns.take_turns.Given as goal

-- what is in order, and behind it what is left of both by turns
abbrev pub invariant-loop-at : goal.invariant-loop-at
invariant-loop-at l = l.order.items ++ turns (drop l.at l.one) (drop l.at l.other) ≡ turns l.one l.other
