use Rattle.ws_record.proofs.Common.{◌∙◌, held_went_out, plain_spelling}
use Rattle.ws_record.proofs.Encodings.{spelling_accepted}
use Rattle.ws_record.proofs.encoder.encode.Goals as goal

pub returns-in-Ok-clause-spelled : goal.returns-in-Ok-clause-spelled
returns-in-Ok-clause-spelled g c =
    let text = plain_spelling g.B.Code.rules c.args.items.now in
    c.into_inner.ensures ∙ held_went_out c.new-sink.result c.write_items.new.sink text
    c.in-Ok.ensures.ok ∙ rw c.new-sink.ensures.bytes

pub returns-in-Ok-clause-accepted : goal.returns-in-Ok-clause-accepted
returns-in-Ok-clause-accepted g c =
    let rules = g.B.Code.rules in
    let items = c.args.items.now in
    rw (returns-in-Ok-clause-spelled g c) (spelling_accepted rules g.met.B.Code.bytes _
    c.in_ok-check_items.ensures.encoded c.in_ok-check_items.ensures.known)
