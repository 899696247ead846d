use Rattle.std.proofs.Common.{◌≡◌, drop}
use Rattle.ws_program.specs.Traced.{number_with}
use Rattle.ws_program.proofs.traced.number_of.Given as goal

-- the digits left go on with the number so far
abbrev pub invariant-loop-digit : goal.invariant-loop-digit
invariant-loop-digit l = number_with l.number (drop l.digit-index l.digits) ≡ number_with 0 l.digits
