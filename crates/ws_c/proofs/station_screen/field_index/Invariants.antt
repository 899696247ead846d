use Rattle.std.proofs.Common.{◌≡◌, drop}
use Rattle.ws_c.specs.Calls.{field_index, index_from}
use Rattle.ws_c.proofs.station_screen.field_index.Given as goal

abbrev pub invariant-loop-index : goal.invariant-loop-index
invariant-loop-index l = index_from l.index (drop l.index l.fields) l.at ≡ field_index l.fields l.at
