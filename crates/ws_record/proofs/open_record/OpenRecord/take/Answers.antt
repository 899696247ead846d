use Rattle.ws_record.proofs.Common.{same_front}
use Rattle.ws_record.proofs.OpenRecords.{plain_front}
use Rattle.ws_record.proofs.open_record.OpenRecord.take.Goals as goal

pub returns-then-self-gt0-clause-plain : goal.returns-then-self-gt0-clause-plain
returns-then-self-gt0-clause-plain g c =
    plain_front c.args.piece.now c.take_body.result.used c.plain_length-count.result c.take_body.ensures.within
    c.plain_length-count.ensures.plain

pub returns-then-self-gt0-clause-taken : goal.returns-then-self-gt0-clause-taken
returns-then-self-gt0-clause-taken g c =
    λ so_far r. rw
    (same_front c.args.piece.now c.take_body.result.used c.plain_length-count.result c.take_body.ensures.within) at
    (c.take_body.ensures.taken so_far r)

pub returns-else-self-gt0-clause-plain : goal.returns-else-self-gt0-clause-plain
returns-else-self-gt0-clause-plain g c =
    plain_front c.args.piece.now c.take_header.result.used c.plain_length-count-else-self-gt0.result
    c.take_header.ensures.within c.plain_length-count-else-self-gt0.ensures.plain

pub returns-else-self-gt0-clause-taken : goal.returns-else-self-gt0-clause-taken
returns-else-self-gt0-clause-taken g c =
    λ so_far r. rw (same_front c.args.piece.now c.take_header.result.used c.plain_length-count-else-self-gt0.result
    c.take_header.ensures.within) at (c.take_header.ensures.taken so_far r)
