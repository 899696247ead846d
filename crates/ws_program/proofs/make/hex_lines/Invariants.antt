use Rattle.std.proofs.Common.{◌≡◌, take}
use Rattle.ws_program.specs.Making.{made_text}
use Rattle.ws_program.proofs.make.hex_lines.Given as goal

-- the lines of the items so far
abbrev pub invariant-loop-item : goal.invariant-loop-item
invariant-loop-item g l = l.text.items ≡ made_text g.B.Code.rules (take l.item-index l.items)
