use Rattle.std.proofs.Common.{◌<◌, arith, get_or, length}
use Rattle.std.proofs.lemmas.List.{get_or_default}
use Rattle.std.proofs.lemmas.List.Edits.{map_over_more}
use Rattle.ws_c.specs.Pages.{cell_on}
use Rattle.ws_c.specs.declared.station_cells.CellTold.{CellTold}
use Rattle.ws_c.proofs.page_text.to_page.Goals as goal

pub loop-cell-preserved : goal.loop-cell-preserved
loop-cell-preserved c =
    let cells = c.loop-cell.cells in
    let index = c.loop-cell.cell-index in
    let none : CellTold = record { character = 0; field = 0; byte = 0; attribute = 0 } in
    let item : CellTold = get_or cells index none in
    let inside : index < length cells = omega (arith, c.loop-cell.auto.cells, c.loop-cell-test.true) in
    rw c.cell_seen.ensures
    (map_over_more (cell_on c.args.page) c.args.cells.now cells index item (omega arith) c.loop-cell.invariant
    (get_or_default cells index none item inside))
