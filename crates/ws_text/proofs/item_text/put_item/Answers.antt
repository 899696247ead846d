use Rattle.ws_text.proofs.Common.{ap}
use Rattle.ws_text.proofs.Prints.{prints_both, prints_same}
use Rattle.ws_text.proofs.item_text.put_item.Goals as goal

pub returns-in-Record : goal.returns-in-Record
returns-in-Record g c = rw c.in-Record.is (prints_both (prints_both c.put_head-output.ensures
    (prints_same (ap g.U.Listed.lines_of c.as_slice.ensures) c.put_body-output.ensures)) c.put_text.ensures)
