use Rattle.std.specs.List.{concat}
use Rattle.std.specs.Prelude.{map}
use Rattle.std.proofs.Common.{◌≡◌}
use Rattle.ws_program.proofs.hex_text.digits_of.Given as goal

-- the parts so far
abbrev pub invariant-loop-part : goal.invariant-loop-part
invariant-loop-part l = l.digits.items ≡ concat (map (λ x. x.now) l.yielded)
