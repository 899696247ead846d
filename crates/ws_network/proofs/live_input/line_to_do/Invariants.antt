use Rattle.std.proofs.Common.{◌≡◌}
use Rattle.ws_network.proofs.live_input.line_to_do.Given as goal

abbrev pub invariant-loop : goal.invariant-loop
invariant-loop g l = l.input.is_typed ≡ l.initial.input.is_typed
