use Rattle.ws_record.proofs.Common.{ap, arith, common_steps, Truncated}
use Rattle.ws_record.proofs.Refusals.{truncated}
use Rattle.ws_record.proofs.live.Live.finish.Goals as goal
use Rattle.ws_record.proofs.live.Live.finish.Goals.{then-is_inside-via-then-is_inside}
use Rattle.ws_record.proofs.live.Live.finish.Goals.{then-is_inside-via-else-is_inside+then-not-is_empty}

pub returns-then-is_inside-clause-truncated : goal.returns-then-is_inside-clause-truncated
returns-then-is_inside-clause-truncated g c =
    λ bytes items so_far l fits.
    let old = rw (← c.self.view_is) at l in (
      ap Truncated old.count,
      truncated _ _ _ _ _ old.holds old.opened (λ e f. elim c.then-is_inside.branch [
        | then-is_inside-via-then-is_inside w ↦ c.is_inside.ensures.yes w.if-is_inside.true f
        | then-is_inside-via-else-is_inside+then-not-is_empty w ↦
            (w.is_empty.ensures so_far old.reads).1 w.if-not-is_empty.true e
      ]),
    )

pub returns-clause-ok : goal.returns-clause-ok
returns-clause-ok g c = grind (arith, common_steps)

pub returns-clause-truncated : goal.returns-clause-truncated
returns-clause-truncated g c = grind (arith, common_steps)
