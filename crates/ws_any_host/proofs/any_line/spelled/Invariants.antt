use Rattle.std.proofs.Common.{◌≡◌, take}
use Rattle.ws_code.specs.Code.{spelling_of}
use Rattle.ws_extended.specs.ExtendedElements.{extended_rules}
use Rattle.ws_any_host.proofs.any_line.spelled.Given as goal

-- the bytes so far are those of the elements before
abbrev pub invariant-loop-element : goal.invariant-loop-element
invariant-loop-element l = l.bytes.items ≡ spelling_of extended_rules (take l.element-index l.elements)
