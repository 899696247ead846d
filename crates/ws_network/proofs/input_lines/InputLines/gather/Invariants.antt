use Rattle.std.proofs.Common.{◌≡◌}
use Rattle.ws_network.proofs.input_lines.InputLines.gather.Given as goal

abbrev pub invariant-loop : goal.invariant-loop
invariant-loop g l = (l.self.is_typed ≡ l.initial.self.is_typed) × (l.self.ahead ≡ l.initial.self.ahead)
