use Rattle.std.proofs.Common.{◌≡◌, sym, ◌∙◌, arith}
use Rattle.ws_code.specs.Device.{most_reads}
use Rattle.ws_live.proofs.CarryOns.{one_told, none_told, once_fails, too_much_told, told_goes}
use Rattle.ws_live.proofs.LiveRuns.{none_gone}
use Rattle.ws_live.proofs.live.repeated.carry_on.Goals as goal

pub loop-init : goal.loop-init
loop-init g c = (none_gone, c.requires.works, c.requires.empty)

pub returns-then-not-is_told-clause-printed : goal.returns-then-not-is_told-clause-printed
returns-then-not-is_told-clause-printed g c =
    none_told c.loop.counter c.loop.invariant.0 c.in-Ok.closing (rw c.in-Ok.is at c.carry_once.ensures.printed)
    (sym c.is_told.ensures ∙ c.if-not-is_told.true) c.goes_well.ensures

pub returns-in-Err-clause-printed : goal.returns-in-Err-clause-printed
returns-in-Err-clause-printed g c =
    once_fails c.loop.counter c.loop.invariant.0 c.in-Err.fault (rw c.in-Err.is at c.carry_once.ensures.printed)

pub loop-preserved : goal.loop-preserved
loop-preserved g c =
    let told = sym c.is_told.ensures ∙ c.if-not-is_told.false in (
      one_told c.loop.counter c.loop.invariant.0 c.in-Ok.closing (rw c.in-Ok.is at c.carry_once.ensures.printed) told,
      c.in-Ok.ensures.works (told_goes c.in-Ok.closing told),
      c.carry_once.ensures.held,
    )

pub returns-clause-printed : goal.returns-clause-printed
returns-clause-printed g c =
    let all : c.loop.counter ≡ most_reads = omega (arith, c.loop-test.false, c.loop.auto.counter-end) in
    too_much_told c.loop.counter c.loop.invariant.0 all
