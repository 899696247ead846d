use Rattle.std.specs.Char.{is_ascii_digit}
use Rattle.std.proofs.Common.{◌≡◌, ◌<◌, ℕ, get_or, true}
use Rattle.ws_program.proofs.recorded.digit_count.Given as goal

-- each byte so far is a digit
abbrev pub invariant-loop-at : goal.invariant-loop-at
invariant-loop-at l = (k : ℕ) → k < l.at → is_ascii_digit (get_or l.line k 0) ≡ true
