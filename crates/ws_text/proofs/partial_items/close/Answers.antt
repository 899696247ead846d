use Rattle.std.proofs.Common.{◌∙◌}
use Rattle.ws_text.proofs.PartialRecords.{closed_item}
use Rattle.ws_text.proofs.partial_items.close.Goals as goal

pub returns : goal.returns
returns g c = λ r is.
    closed_item g.B.Code.rules r c.args.begun.flags c.args.begun.opcode _ is.flags is.opcode
    (c.of.ensures ∙ c.in_ok-into_whole.ensures r.body is.body)
