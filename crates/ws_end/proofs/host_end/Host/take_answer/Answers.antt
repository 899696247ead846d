use Rattle.ws_end.proofs.Common.{◌∙◌, sym, Err, is_read, read_split}
use Rattle.ws_keys.specs.declared.host_answer.HostFault.TheVariants.{Reason as Mismatch, Memory as Wanting}
use Rattle.ws_end.specs.contracts.host_end.Host.{the_view}
use Rattle.ws_end.proofs.HostSteps.{answer_taken, answer_refused, answer_wanting}
use Rattle.ws_end.proofs.host_end.Host.take_answer.Goals as goal

pub returns-in-Ok-clause-reacted : goal.returns-in-Ok-clause-reacted
returns-in-Ok-clause-reacted c =
    let says = read_split c.in-Some.kind c.self.inside.kept.fields c.args.parts.now _ c.in-Ok.ensures.split in
    rw (← c.self.view_is) (λ state h. rw c.event_step.ensures (answer_taken (the_view c.self.inside) state h
    c.known.ensures.legal.size _ (sym c.pending.ensures ∙ c.in-Some.is) _ _ _ (cc) c.cancel_read.ensures.event))

pub returns-in-Err-Reason-clause-reacted : goal.returns-in-Err-Reason-clause-reacted
returns-in-Err-Reason-clause-reacted c =
    let f = is_read c.in-Some.kind c.self.inside.kept.fields c.args.parts.now
    (Err (Mismatch c.in-Err-Reason.reason)) (rw c.in-Err-Reason.field-0-is at c.in-Err-Reason.ensures.split) in
    rw (← c.self.view_is) (λ state h. answer_refused (the_view c.self.inside) state h c.known.ensures.legal.size _
    (sym c.pending.ensures ∙ c.in-Some.is) _ (the_view c.self.inside) _ f.0 f.1)

pub returns-in-Err-Memory-clause-reacted : goal.returns-in-Err-Memory-clause-reacted
returns-in-Err-Memory-clause-reacted c =
    let some = is_read c.in-Some.kind c.self.inside.kept.fields c.args.parts.now
    (Err Wanting) (rw c.in-Err-Memory.field-0-is at c.in-Err-Memory.ensures.split) in
    rw (← c.self.view_is) (λ state h. answer_wanting (the_view c.self.inside) state h c.known.ensures.legal.size _
    (sym c.pending.ensures ∙ c.in-Some.is) _ (the_view c.self.inside) some)
