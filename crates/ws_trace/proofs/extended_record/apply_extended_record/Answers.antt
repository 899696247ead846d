use Rattle.ws_extended.specs.ExtendedStates.{state_after_all, state_after_end}
use Rattle.ws_trace.proofs.extended_record.apply_extended_record.Goals as goal

pub returns-clause-after : goal.returns-clause-after
returns-clause-after c = λ state shows.
    let after = state_after_all state c.args.record_.now.body in
    c.act.ensures.after (state_after_end after) (c.end_write.ensures.ended after
    (rw c.as_slice-2.ensures at (c.in_default-apply_elements.ensures.after state shows)))
