use Rattle.std.specs.List.{range_with_len}
use Rattle.std.proofs.Common.{◌≡◌, ◌+◌, take, map}
use Rattle.ws_screen.specs.Lines.{attribute_at}
use Rattle.ws_c.specs.Cells.{EndsBehind, IsPast, cell_told}
use Rattle.ws_c.proofs.station_cells.tell_cells.Given as goal

abbrev pub invariant-loop-index : goal.invariant-loop-index
invariant-loop-index l = record {
  told : take l.index l.cells ≡ map (cell_told l.screen) (range_with_len l.first l.index);
  past : IsPast l.screen.fields (l.first + l.index) l.field l.ahead;
  behind : EndsBehind (l.first + l.index) l.ahead;
  in_force : l.attribute ≡ attribute_at l.screen.cells (l.first + l.index);
}
