use Rattle.std.specs.List.{list_all}
use Rattle.std.proofs.Common.{◌≡◌, take, true}
use Rattle.ws_stream.specs.Parts.{is_kind}
use Rattle.ws_stream.proofs.erase_list.EraseList.new.Given as goal

abbrev pub invariant-loop-kind : goal.invariant-loop-kind
invariant-loop-kind l = (l.all ≡ take l.kind-index l.kinds) × (list_all is_kind (take l.kind-index l.kinds) ≡ true)
