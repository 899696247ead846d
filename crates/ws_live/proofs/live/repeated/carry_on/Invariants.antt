use Rattle.std.specs.Prelude.{replicate, None}
use Rattle.std.proofs.Common.{◌≡◌, [], false}
use Rattle.ws_printing.specs.declared.paint.Paint.TheVariants.{Plain}
use Rattle.ws_live.specs.declared.live.AfterUnwell.TheVariants.{GoOn}
use Rattle.ws_live.specs.live.LiveText.{ran_none, telling_by}
use Rattle.ws_live.specs.live.Watches.{InTime}
use Rattle.ws_live.proofs.LiveRuns.{HaveGone}
use Rattle.ws_live.proofs.live.repeated.carry_on.Given as goal

-- so many things were told and printed
abbrev pub invariant-loop : goal.invariant-loop
invariant-loop g l = HaveGone GoOn
    (InTime (g.L.LiveMove.runs g.W.Watch.tells (telling_by Plain None)) g.L.LiveMove.waits g.W.Watch.times)
    g.O.Sink.writer l.fn.session l.fn.out.sink (replicate l.counter l.line) ran_none l.session l.out.sink
    × (l.session.attached.broken ≡ false) × (l.out.held ≡ [])
