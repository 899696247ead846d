use Rattle.ws_text.proofs.Prints.{prints_both}
use Rattle.ws_live.proofs.live.pressing.put_key_refused.Goals as goal

pub returns : goal.returns
returns g c = prints_both
    (prints_both (prints_both (prints_both c.put_text-output.ensures c.put_key_fault-output.ensures)
    c.put_entered-output.ensures) c.put_to-output.ensures)
    c.put_text.ensures
