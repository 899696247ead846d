use Rattle.ws_script.proofs.cause.shown.Goals as goal

pub returns-in_ok-word-in-OutOfRange : goal.returns-in_ok-word-in-OutOfRange
returns-in_ok-word-in-OutOfRange c =
    rw (c.in-OutOfRange.is, ← c.in_ok-word-in-OutOfRange.ensures) c.format.ensures.ok

pub returns-in_ok-word-in-OtherLength : goal.returns-in_ok-word-in-OtherLength
returns-in_ok-word-in-OtherLength c =
    rw (c.in-OtherLength.is, ← c.in_ok-word-in-OtherLength.ensures) c.format-in-OtherLength.ensures.ok
