use Rattle.std.proofs.Common.{ap}
use Rattle.ws_printing.specs.Buffering.{Buffering}
use Rattle.ws_live.proofs.LiveOutput.{handed_on, not_handed_on}
use Rattle.ws_live.proofs.live.hand_on.Goals as goal

pub returns-in-Ok-clause-out : goal.returns-in-Ok-clause-out
returns-in-Ok-clause-out g c = λ from text empty is.
    handed_on g.O.Sink.writer from c.args.out.now empty c.flush.new.self.sink
    c.args.output text is c.in-Ok.ensures.ok.0 (λ none. ap (λ (b : Buffering g.row.O.Denot). b.sink)
    (c.flush.ensures.none none))

pub returns-in-Err-clause-out : goal.returns-in-Err-clause-out
returns-in-Err-clause-out g c = λ from text empty is.
    not_handed_on g.O.Sink.writer from c.args.out.now empty c.flush.new.self.sink
    c.args.output text is c.in-Err.ensures.err.0
