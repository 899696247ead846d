use Rattle.ws_end.proofs.Common.{[], None, refl, arith, take, append_assoc, append-nil, left_of, bytes_on, length_rest}
use Rattle.ws_end.proofs.Common.{length-take-le}
use Rattle.ws_end.specs.driver.Driven.{driving, IsSilent}
use Rattle.ws_end.proofs.driver.Drivings.{prefix_takes, takes_on, takes_none}
use Rattle.ws_end.proofs.driver.Driver.take.Goals as goal

pub returns-then-not-is_silent-clause-taken : goal.returns-then-not-is_silent-clause-taken
returns-then-not-is_silent-clause-taken g c =
    let d = driving g.R.Body.Code.rules g.R.Collector.Keep.keeper g.R.Reacts.does in
    let now = c.loop-used in
    let f = c.take_prefix-prefix in
    let piece = c.args.piece.now in
    let t = prefix_takes d now.self (left_of piece now.used) f.new.self f.result f.ensures now.invariant.1
    (omega (arith, now.invariant.2, c.requires.fits, length_rest piece now.used, now.invariant.0)) in
    rw (bytes_on [] piece now.used f.result.used) at (now.invariant.3 _ _ _ t)

pub loop-used-preserved-else-not-is_silent-2 : goal.loop-used-preserved-else-not-is_silent-2
loop-used-preserved-else-not-is_silent-2 g c =
    let d = driving g.R.Body.Code.rules g.R.Collector.Keep.keeper g.R.Reacts.does in
    let now = c.loop-used in
    let f = c.take_prefix-prefix in
    let piece = c.args.piece.now in
    let i = now.used in
    let k = f.result.used in
    let prefix = take k (left_of piece i) in
    let silent : IsSilent d f.new.self.reacts f.result.step = c.is_silent.ensures.silent c.if-not-is_silent.false in
    let t = prefix_takes d now.self (left_of piece i) f.new.self f.result f.ensures now.invariant.1
    (omega (arith, now.invariant.2, c.requires.fits, length_rest piece i, now.invariant.0)) in (
      omega (arith, f.ensures.within, length_rest piece i, now.invariant.0),
      rw silent.1 at t.ended,
      omega (arith, t.counted, now.invariant.2, length-take-le k (left_of piece i) f.ensures.within),
      λ new more result next. rw (← append_assoc (take i piece) prefix more, bytes_on [] piece i k) at
          (now.invariant.3 new _ result (takes_on d now.self f.new.self new prefix more f.result.step silent t result
          next)),
      λ none. absurd (omega (arith, none, f.ensures.used (λ e. cc))),
    )

pub returns-clause-taken : goal.returns-clause-taken
returns-clause-taken g c =
    let d = driving g.R.Body.Code.rules g.R.Collector.Keep.keeper g.R.Reacts.does in
    let now = c.loop-used.self in
    rw (append-nil _) at (c.loop-used.invariant.3 now [] _ (takes_none d now _ c.loop-used.invariant.1
    (record { reply = c.silence.result; event = None }, refl, refl, c.silence.ensures now.reacts)))
