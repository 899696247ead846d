use Rattle.ws_extended.specs.ExtendedStates.{state_after_all, state_after_end}
use Rattle.ws_extended_station.proofs.carrying_out.apply_kept.Goals as goal

pub returns-in-Ok-clause-applied : goal.returns-in-Ok-clause-applied
returns-in-Ok-clause-applied c = λ state body chain same shows.
    let judged = c.in-Ok.ensures state body chain same shows in (
      judged.0,
      c.act.ensures.after (state_after_end (state_after_all state body))
          (c.end_write.ensures.ended (state_after_all state body) judged.1),
    )
