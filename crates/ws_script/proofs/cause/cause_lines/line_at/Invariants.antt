use Rattle.std.specs.Str.Lines.{lines}
use Rattle.std.proofs.Common.{◌≡◌, drop}
use Rattle.ws_script.proofs.cause.cause_lines.line_at.Given as goal

-- the lines that are left
abbrev pub invariant-loop : goal.invariant-loop
invariant-loop l = drop l.counter (lines l.text) ≡ lines l.rest
