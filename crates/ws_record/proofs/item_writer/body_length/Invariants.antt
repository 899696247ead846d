use Rattle.ws_record.proofs.Common.{◌≡◌, take, length, ◌≤◌, spelling_of}
use Rattle.ws_record.proofs.item_writer.body_length.Given as goal

-- the length so far is that of the units before
abbrev pub invariant-loop-unit : goal.invariant-loop-unit
invariant-loop-unit g l = record {
  counts : l.length ≡ length (spelling_of g.B.Code.rules (take l.unit-index l.units));
  fits : l.length ≤ 65525;
}
