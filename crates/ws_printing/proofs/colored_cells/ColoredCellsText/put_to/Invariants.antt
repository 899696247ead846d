use Rattle.std.specs.Prelude.{None}
use Rattle.std.proofs.Common.{◌≡◌, take}
use Rattle.ws_text.specs.Printing.{Prints}
use Rattle.ws_printing.specs.ColoredRows.{colored_behind}
use Rattle.ws_printing.proofs.ColoredCells.{last_attribute}
use Rattle.ws_printing.proofs.colored_cells.ColoredCellsText.put_to.Given as goal

-- the cells so far, and the attribute of the last of them
abbrev pub invariant-loop-cell : goal.invariant-loop-cell
invariant-loop-cell g l = Prints g.S.Sink.writer l.fn.sink l.sink l.fn.output l.output
    (colored_behind None (take l.cell-index l.cell-items))
    × (l.before ≡ last_attribute None (take l.cell-index l.cell-items))
