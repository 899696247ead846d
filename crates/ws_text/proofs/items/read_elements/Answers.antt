use Rattle.ws_text.proofs.LinesRead.{only_this}
use Rattle.ws_text.proofs.items.read_elements.Goals as goal

pub returns-clause-only : goal.returns-clause-only
returns-clause-only g c = λ r are.
    only_this g.B.Code.rules g.B.Worded.wording c.args.opcode g.met.B.Worded.clear c.args.text.now r are
    c.read_body.result c.read_body.ensures.ok c.read_body.ensures.fault
