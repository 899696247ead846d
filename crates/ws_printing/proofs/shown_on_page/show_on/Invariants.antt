use Rattle.ws_printing.proofs.Common.{◌≡◌, ◌+◌, take, attribute_at, cells_on_page}
use Rattle.ws_printing.proofs.shown_on_page.show_on.Given as goal

-- the cells so far, and the attribute in force
abbrev pub invariant-loop-index : goal.invariant-loop-index
invariant-loop-index l = record {
  done : take l.index l.shown ≡ cells_on_page l.page l.cells l.fn.first l.index;
  in_force : l.attribute ≡ attribute_at l.cells (l.fn.first + l.index);
}
