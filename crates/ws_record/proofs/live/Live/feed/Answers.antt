use Rattle.ws_record.proofs.Common.{ℕ, refl, ap, length, inl, inr, arith, ◌+◌, ◌^◌, cases_lt, append-nil, bytes_on}
use Rattle.ws_record.proofs.Common.{Watching}
use Rattle.ws_record.proofs.Lives.{front_step, front_made, front_counted, led_on, part_first, part_on, part_held}
use Rattle.ws_record.proofs.live.Live.feed.Goals as goal

pub returns-then-not-works-clause-counted : goal.returns-then-not-works-clause-counted
returns-then-not-works-clause-counted g c = λ _.
    omega (arith, ap (λ (k : Watching g.row.B-Place.Denot). k.taken) c.failing-step.ensures.after)

pub returns-then-not-works-clause-first : goal.returns-then-not-works-clause-first
returns-then-not-works-clause-first g c = λ bytes items so_far l fits n lt. absurd (omega (arith, lt))

pub returns-then-not-works-clause-before : goal.returns-then-not-works-clause-before
returns-then-not-works-clause-before g c = λ bytes items so_far l fits n lt. absurd (omega (arith, lt))

pub returns-then-not-works-clause-idle : goal.returns-then-not-works-clause-idle
returns-then-not-works-clause-idle g c = λ _. refl

pub loop-used-init : goal.loop-used-init
loop-used-init g c = (
  omega arith,
  (λ bytes items so_far l fits. (
    (so_far.bytes, rw (append-nil bytes) l),
    λ n k. part_first _ l c.args.piece.now n k,
  )),
  λ fits. omega arith,
)

pub loop-used-preserved-in-More : goal.loop-used-preserved-in-More
loop-used-preserved-in-More g c = led_on g.B.Code.rules c.args.piece.now c.loop-used.used c.advance-advance.new.keep
    c.advance-advance.ensures c.in-More.is c.loop-used.invariant

pub loop-used-preserved : goal.loop-used-preserved
loop-used-preserved g c = led_on g.B.Code.rules c.args.piece.now c.loop-used.used c.advance-advance.new.keep
    c.advance-advance.ensures c.in-More.is c.loop-used.invariant

pub returns-in_default-clause-step : goal.returns-in_default-clause-step
returns-in_default-clause-step g c = λ bytes items so_far l fits.
    let inv = c.loop-used.invariant.1 bytes items so_far l (omega (arith, fits, c.loop-used.invariant.0)) in
    let made = front_made g.B.Code.rules c.args.piece.now c.loop-used.used c.advance-advance.ensures bytes inv.0.1 fits
    in (
      inv.0.0,
      rw (bytes_on bytes c.args.piece.now c.loop-used.used c.advance-advance.result.used) at
          (front_step g.B.Code.rules c.step_of-step.new.self c.advance-advance.result.news c.step_of-step.result made
          c.step_of-step.ensures.step),
    )

pub returns-in_default-clause-before : goal.returns-in_default-clause-before
returns-in_default-clause-before g c = λ bytes items so_far l fits.
    let inv = c.loop-used.invariant.1 bytes items so_far l (omega (arith, fits, c.loop-used.invariant.0)) in
    part_on g.B.Code.rules c.args.piece.now c.loop-used.used c.advance-advance.result.used bytes items so_far
    c.advance-advance.ensures.before inv.0 inv.1

pub returns-in_default-clause-first : goal.returns-in_default-clause-first
returns-in_default-clause-first g c = λ bytes items so_far l fits n lt.
    part_held _ (returns-in_default-clause-before g c bytes items so_far l fits n lt)

pub returns-in_default-clause-only : goal.returns-in_default-clause-only
returns-in_default-clause-only g c = λ bytes items so_far l failed.
    let used : ℕ = c.loop-used.used + c.advance-advance.result.used in
    elim (cases_lt (length bytes + used + 1) (2 ^ 64)) [
      | inl fits ↦ (let inv = c.loop-used.invariant.1 bytes items so_far l (omega (arith, fits)) in
          let made = front_counted g.B.Code.rules c.args.piece.now c.loop-used.used c.advance-advance.ensures bytes
          inv.0.1 c.loop-used.invariant.0 fits in
          absurd (rw failed at (front_step g.B.Code.rules c.step_of-step.new.self c.advance-advance.result.news
          c.step_of-step.result made c.step_of-step.ensures.step)))
      | inr ge ↦ ge
    ]

pub returns-clause-step : goal.returns-clause-step
returns-clause-step g c = λ bytes items so_far l fits.
    let inv = c.loop-used.invariant.1 bytes items so_far l (omega (arith, fits, c.loop-used.invariant.0)) in
    (inv.0.0, inv.0)

pub returns-clause-before : goal.returns-clause-before
returns-clause-before g c = λ bytes items so_far l fits n lt.
    (c.loop-used.invariant.1 bytes items so_far l (omega (arith, fits, c.loop-used.invariant.0))).1 n
    (omega (arith, lt))

pub returns-clause-first : goal.returns-clause-first
returns-clause-first g c = λ bytes items so_far l fits n lt.
    part_held _ (returns-clause-before g c bytes items so_far l fits n lt)
