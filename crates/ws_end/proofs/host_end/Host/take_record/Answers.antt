use Rattle.ws_end.proofs.Common.{◌∙◌, sym}
use Rattle.ws_end.proofs.HostSteps.{signalled}
use Rattle.ws_end.proofs.host_end.Host.take_record.Goals as goal

pub returns-in-NoOperation-clause-reacted : goal.returns-in-NoOperation-clause-reacted
returns-in-NoOperation-clause-reacted c = λ state h. rw c.event_step.ensures (signalled _ state c.args.flags _ _ _ h
    c.in-NoOperation.is (sym c.is_empty.ensures ∙ c.if-not-is_empty.false) c.signal.ensures)
