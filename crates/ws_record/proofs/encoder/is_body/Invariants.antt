use Rattle.ws_record.proofs.Common.{◌≡◌, take, IsChain, place_after}
use Rattle.ws_record.proofs.encoder.is_body.Given as goal

-- the units before stand one after another, and lead to the place
abbrev pub invariant-loop-unit : goal.invariant-loop-unit
invariant-loop-unit g l = record {
  chain : IsChain g.B.Code.rules g.B.Code.rules.first (take l.unit-index l.units);
  leads : l.place ≡ place_after g.B.Code.rules g.B.Code.rules.first (take l.unit-index l.units);
}
