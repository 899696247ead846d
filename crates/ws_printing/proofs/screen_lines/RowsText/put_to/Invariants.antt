use Rattle.std.proofs.Common.{◌-◌}
use Rattle.ws_text.specs.Printing.{Prints}
use Rattle.ws_printing.specs.ScreenLines.{rows_text}
use Rattle.ws_printing.proofs.screen_lines.RowsText.put_to.Given as goal

-- the rows so far
abbrev pub invariant-loop-row : goal.invariant-loop-row
invariant-loop-row g l = Prints g.S.Sink.writer l.fn.sink l.sink l.fn.output l.output
    (rows_text l.self.0 l.self.1.now.cells (l.row - 1))
