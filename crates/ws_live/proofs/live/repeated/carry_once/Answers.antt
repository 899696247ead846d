use Rattle.std.specs.Prelude.{None}
use Rattle.std.proofs.Common.{inl, inr, refl}
use Rattle.ws_text.proofs.Prints.{whole_out}
use Rattle.ws_printing.specs.declared.paint.Paint.TheVariants.{Plain}
use Rattle.ws_live.specs.live.LiveText.{telling_by}
use Rattle.ws_live.specs.live.Watches.{InTime}
use Rattle.ws_live.proofs.LiveRuns.{line_failed}
use Rattle.ws_live.proofs.live.repeated.carry_once.Goals as goal

pub returns-in-Open-clause-printed : goal.returns-in-Open-clause-printed
returns-in-Open-clause-printed g c =
    let e = rw c.in-Ok.is at c.carry_out-carried.ensures.runs in
    let out = c.hand_on-output.ensures.out c.args.out.now e.0 c.requires.empty (whole_out e.2) in (
      e.0,
      (e.1, (c.end_waits.new.self, c.end_waits.ensures, c.carry_out-carried.ensures.begun)),
      rw c.in-Open.is at out,
    )

pub returns-in-Failed-clause-printed : goal.returns-in-Failed-clause-printed
returns-in-Failed-clause-printed g c =
    let e = rw c.in-Ok.is at c.carry_out-carried.ensures.runs in
    let out = c.hand_on-output.ensures.out c.args.out.now e.0 c.requires.empty (whole_out e.2) in
    let begun = c.carry_out-carried.ensures.begun in
    inr (
      e.0,
      inl (refl, (c.in-Ok.closing, (e.1, (c.end_waits.new.self, c.end_waits.ensures, begun)))),
      rw c.in-Failed.is at out,
    )

pub returns-in-Err-clause-printed : goal.returns-in-Err-clause-printed
returns-in-Err-clause-printed g c =
    let e = rw c.in-Err.is at c.carry_out-carried.ensures.runs in
    line_failed (InTime (g.L.LiveMove.runs g.W.Watch.tells (telling_by Plain None)) g.L.LiveMove.waits
    g.W.Watch.times) g.O.Sink.writer _ _ c.args.out.now.sink c.hand_on-output.new.out.sink _ c.in-Err.fault
    c.hand_on-output.result e.0
    (e.1, (c.end_waits.new.self, c.end_waits.ensures, c.carry_out-carried.ensures.begun))
    (c.hand_on-output.ensures.out c.args.out.now e.0 c.requires.empty (whole_out e.2))
