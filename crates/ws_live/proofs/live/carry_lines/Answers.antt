use Rattle.std.proofs.Common.{ap, ◌∙◌}
use Rattle.ws_live.specs.live.LiveText.{ran_and}
use Rattle.ws_live.proofs.LiveRuns.{breaks, ends_here, goes_on, none_gone, split_here, taken_here, unstopped}
use Rattle.ws_live.proofs.live.carry_lines.Goals as goal

pub loop-line-init : goal.loop-line-init
loop-line-init g c = (rw c.none-ran.ensures none_gone, c.requires.works, c.requires.empty)

pub returns-in-Err-clause-printed : goal.returns-in-Err-clause-printed
returns-in-Err-clause-printed g c =
    breaks c.loop-line.invariant.0 _ (split_here _ _ _ c.loop-line-test.true c.line-item.is) c.in-Err.fault
    (rw c.in-Err.is at c.carry_line.ensures.printed)

pub returns-then-ran-clause-printed : goal.returns-then-ran-clause-printed
returns-then-ran-clause-printed g c =
    ends_here c.loop-line.invariant.0 _ (split_here _ _ _ c.loop-line-test.true c.line-item.is)
    (rw c.in-Ok.is at c.carry_line.ensures.printed)
    (c.and-ran.ensures ∙ ap (ran_and c.loop-line.ran) c.ran.ensures) c.if-ran.true

pub loop-line-preserved : goal.loop-line-preserved
loop-line-preserved g c =
    let made = c.and-ran.ensures ∙ ap (ran_and c.loop-line.ran) c.ran.ensures in (
      goes_on c.loop-line.invariant.0 (taken_here _ _ _ c.loop-line-test.true c.line-item.is)
          (rw c.in-Ok.is at c.carry_line.ensures.printed) made c.if-ran.false,
      c.in-Ok.ensures.works (unstopped c.args.settings.after c.in-Ok.closing (rw made at c.if-ran.false)),
      c.carry_line.ensures.held,
    )
