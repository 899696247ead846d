use Rattle.ws_end.proofs.Common.{◌≡◌, ◌+◌, take, false, length, spelling_of, element_rules}
use Rattle.ws_end.proofs.station.body.body_spelling.Given as goal

-- the room that the elements before leave, and the bytes of these, if no growth was refused
abbrev pub invariant-loop-element : goal.invariant-loop-element
invariant-loop-element l = record {
  left : l.room + length (spelling_of element_rules (take l.element-index l.body)) ≡ 65525;
  spelled : l.is_short ≡ false → l.bytes.items ≡ spelling_of element_rules (take l.element-index l.body);
}
