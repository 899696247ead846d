use Rattle.std.proofs.Common.{ap, false, refl}
use Rattle.ws_entry.specs.EntryDisplays.{as_applied, entry_state, extended_state}
use Rattle.ws_entry.proofs.entry_display.EntryDisplayStationDisplay.apply.Goals as goal

pub returns-in-Ok-clause-applied : goal.returns-in-Ok-clause-applied
returns-in-Ok-clause-applied c = rw (← c.self.view_is) (λ end_state units chain kept given.
    let p = c.in-Ok.ensures.applied (extended_state end_state) units chain kept given.shown in (
      entry_state false p.0,
      p.1,
      ap as_applied p.2,
      p.3,
      p.4,
      record { shown = p.5; full = refl },
    ))

pub returns-in-Err-clause-applied : goal.returns-in-Err-clause-applied
returns-in-Err-clause-applied c = rw (← c.self.view_is) (λ end_state units chain kept given.
    ap as_applied (c.in-Err.ensures.applied (extended_state end_state) units chain kept given.shown))
