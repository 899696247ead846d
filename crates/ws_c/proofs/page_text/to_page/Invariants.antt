use Rattle.std.specs.Prelude.{map}
use Rattle.std.proofs.Common.{◌≡◌, ◌++◌, take, drop}
use Rattle.ws_c.specs.Pages.{cell_on}
use Rattle.ws_c.proofs.page_text.to_page.Given as goal

abbrev pub invariant-loop-cell : goal.invariant-loop-cell
invariant-loop-cell l = l.cells ≡ map (cell_on l.page) (take l.cell-index l.initial.cells)
    ++ drop l.cell-index l.initial.cells
