use Rattle.std.proofs.Common.{inl, inr, refl}
use Rattle.ws_text.proofs.Prints.{prints_both, whole_out}
use Rattle.ws_live.specs.live.LiveText.{WithClosing}
use Rattle.ws_live.specs.live.Watches.{InTime}
use Rattle.ws_live.proofs.LiveRuns.{line_failed}
use Rattle.ws_live.proofs.live.carry_line.Goals as goal

pub returns-in-Open-clause-printed : goal.returns-in-Open-clause-printed
returns-in-Open-clause-printed g c =
    let e = rw c.in-Ok.is at c.carry_out-carried.ensures.runs in
    let out = c.hand_on.ensures.out c.args.out.now _ c.requires.empty
    (whole_out (prints_both e.2 c.put_closing-output.ensures)) in (
      _,
      (e.0, (e.1, (c.end_waits.new.self, c.end_waits.ensures, c.carry_out-carried.ensures.begun)), refl),
      rw c.in-Open.is at out,
    )

pub returns-in-Failed-clause-printed : goal.returns-in-Failed-clause-printed
returns-in-Failed-clause-printed g c =
    let e = rw c.in-Ok.is at c.carry_out-carried.ensures.runs in
    let out = c.hand_on.ensures.out c.args.out.now _ c.requires.empty
    (whole_out (prints_both e.2 c.put_closing-output.ensures)) in
    let begun = c.carry_out-carried.ensures.begun in
    inr (
      _,
      inl (refl, (c.in-Ok.closing, (e.0, (e.1, (c.end_waits.new.self, c.end_waits.ensures, begun)), refl))),
      rw c.in-Failed.is at out,
    )

pub returns-in-Err-clause-printed : goal.returns-in-Err-clause-printed
returns-in-Err-clause-printed g c =
    let e = rw c.in-Err.is at c.carry_out-carried.ensures.runs in
    line_failed (WithClosing (λ told. InTime (g.L.LiveMove.runs g.W.Watch.tells told) g.L.LiveMove.waits
    g.W.Watch.times) c.args.settings) g.O.Sink.writer _ _ c.args.out.now.sink c.hand_on-in-Err.new.out.sink _
    c.in-Err.fault c.hand_on-in-Err.result e.0
    (e.1, (c.end_waits.new.self, c.end_waits.ensures, c.carry_out-carried.ensures.begun))
    (c.hand_on-in-Err.ensures.out c.args.out.now e.0 c.requires.empty (whole_out e.2))
