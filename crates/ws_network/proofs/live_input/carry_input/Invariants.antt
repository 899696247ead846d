use Rattle.std.proofs.Common.{◌≡◌, List, [], true, false}
use Rattle.ws_live.specs.live.LiveText.{WithClosing}
use Rattle.ws_live.specs.live.Watches.{InTime}
use Rattle.ws_live.proofs.LiveRuns.{HaveGone}
use Rattle.ws_script.specs.declared.lines.live_line.NumberedLine.{NumberedLine}
use Rattle.ws_network.specs.SessionPrinting.{AreInput}
use Rattle.ws_network.proofs.live_input.carry_input.Given as goal

-- the lines so far, of which none stopped the session; nothing is held back before a line is read
abbrev pub invariant-loop : goal.invariant-loop
invariant-loop g l = (lines : List (NumberedLine g.row.L.Denot))
    × AreInput g.L.LiveLine.language l.settings.ready lines
    × HaveGone l.settings.after (WithClosing (λ told. InTime (g.L.LiveMove.runs g.W.Watch.tells told)
    g.L.LiveMove.waits g.W.Watch.times) l.settings) g.O.Sink.writer l.fn.session l.fn.out.sink lines l.ran l.session
    l.out.sink
    × (l.session.attached.broken ≡ false) × (l.out.held ≡ []) × (l.input.is_typed ≡ true → l.settings.ready ≡ false)
