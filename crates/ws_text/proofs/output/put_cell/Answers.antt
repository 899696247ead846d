use Rattle.std.proofs.Common.{ap, decimal}
use Rattle.ws_text.proofs.Prints.{prints_both, prints_same}
use Rattle.ws_text.proofs.output.put_cell.Goals as goal

pub returns : goal.returns
returns g c = prints_both (prints_both (prints_same (ap decimal c.row.ensures.value) c.put_number-output.ensures)
    c.put_text-output.ensures) (prints_same (ap decimal c.col.ensures.value) c.put_number.ensures)
