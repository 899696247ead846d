use Rattle.std.proofs.Common.{◌≡◌, [], take, false}
use Rattle.ws_live.specs.live.LiveText.{WithClosing}
use Rattle.ws_live.specs.live.Watches.{InTime}
use Rattle.ws_live.proofs.LiveRuns.{HaveGone}
use Rattle.ws_live.proofs.live.carry_lines.Given as goal

-- the lines so far, of which none stopped the session
abbrev pub invariant-loop-line : goal.invariant-loop-line
invariant-loop-line g l = HaveGone l.settings.after (WithClosing (λ told.
    InTime (g.L.LiveMove.runs g.W.Watch.tells told) g.L.LiveMove.waits g.W.Watch.times) l.settings)
    g.O.Sink.writer l.fn.session l.fn.out.sink (take l.line-index l.lines) l.ran l.session l.out.sink
    × (l.session.attached.broken ≡ false) × (l.out.held ≡ [])
