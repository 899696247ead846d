use Rattle.ws_record.proofs.Common.{AllByRecursion, take, CanAllBeEncoded, IsInRange}
use Rattle.ws_record.proofs.encoder.check_items.Given as goal

-- the items before can be encoded
abbrev pub invariant-loop-index : goal.invariant-loop-index
invariant-loop-index g l = record {
  encoded : CanAllBeEncoded g.B.Code.rules (take l.index l.items);
  known : AllByRecursion IsInRange (take l.index l.items);
}
