use Rattle.ws_record.proofs.Common.{arith}
use Rattle.ws_record.proofs.Lives.{front_step, live_step, more_step, made_one}
use Rattle.ws_record.proofs.live.Live.push.Goals as goal

pub returns-in_default-clause-step : goal.returns-in_default-clause-step
returns-in_default-clause-step g c = λ bytes items so_far l fits. live_step g.B.Code.rules _ _ _ _ _ c.step_of.result
    (front_step _ _ c.advance.result.news _ (made_one _ c.args.byte c.advance.ensures l fits) c.step_of.ensures.step)

pub returns-in-More-clause-step : goal.returns-in-More-clause-step
returns-in-More-clause-step g c = λ bytes items so_far l fits.
    more_step g.B.Code.rules (made_one _ c.args.byte c.advance.ensures l fits) c.in-More.is

pub returns-in_default-clause-counted : goal.returns-in_default-clause-counted
returns-in_default-clause-counted g c = λ bytes items so_far l fits. (
    let e = c.advance.ensures in
    omega (
      arith,
      e.within,
      e.counted,
      l.count,
      fits,
      c.step_of.ensures.counted,
      e.used (λ f. (let a = e.advance bytes items so_far l fits in rw f at a)),
    ))

pub returns-in-More-clause-counted : goal.returns-in-More-clause-counted
returns-in-More-clause-counted g c = λ bytes items so_far l fits. (
    let e = c.advance.ensures in
    omega (
      arith,
      e.within,
      e.counted,
      l.count,
      fits,
      e.used (λ f. (let a = e.advance bytes items so_far l fits in rw f at a)),
    ))
