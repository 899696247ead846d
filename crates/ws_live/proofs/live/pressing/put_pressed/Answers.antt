use Rattle.ws_live.proofs.live.pressing.put_pressed.Goals as goal

pub returns-in-Unfilled-clause-text : goal.returns-in-Unfilled-clause-text
returns-in-Unfilled-clause-text g c =
    rw (c.in-Err.is, c.in-Unfilled.is, ← c.field_fault_word.ensures) c.put_to.ensures
