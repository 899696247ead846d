use Rattle.ws_trace.proofs.Common.{prints_both}
use Rattle.ws_trace.proofs.trace_text.put_dialogue.Goals as goal

pub returns : goal.returns
returns g c = rw (← c.as_slice-entries.ensures.value)
    (prints_both (prints_both c.put_to-output.ensures c.put_end-output.ensures) c.put_end.ensures)
