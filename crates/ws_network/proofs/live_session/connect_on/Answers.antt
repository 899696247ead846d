use Rattle.std.specs.Option.{is_some}
use Rattle.ws_script.specs.lines.ConnectLines.{station_language}
use Rattle.ws_live.specs.live.ConnectText.{StationRunsInTime}
use Rattle.ws_live.specs.live.Operating.{live_station}
use Rattle.ws_network.specs.Times.{timed, timed_waits}
use Rattle.ws_network.proofs.ScriptedLines.{from_script}
use Rattle.ws_network.proofs.SessionPrinted.{connected_well, was_good}
use Rattle.ws_network.proofs.live_session.connect_on.Goals as goal

pub returns-clause-ran : goal.returns-clause-ran
returns-clause-ran g c =
    let at = live_station g.E.End.behaviour g.E.Keyed.keyed g.E.LiveStation.typing g.E.LiveStation.seen
    g.E.Display.StationDisplay.does.shown g.E.Display.OperatedDisplay.operated g.E.Named.NamedKey.words in
    let carried = c.carry_session-outcome in
    let ran = rw (was_good c.in_ok-judge.ensures) at carried.ensures.printed in
    let lines = c.lines_of-lines in
    let fresh = rw (c.new-attached.ensures, c.new-2.ensures, c.new-3.ensures, c.new-4.ensures) at c.new-session.ensures
    in
    let came = connected_well (StationRunsInTime at timed timed_waits) c.args.asked.now.settings g.O.Sink.writer ran.0
    carried.new.session (is_some lines.result) c.args.out.now.sink carried.new.out.sink _ _ c.in_ok-judge.field-0 fresh
    ran.2 in (
      ran.0,
      came.0,
      from_script (λ v. v.items) (station_language g.E.Named.NamedKey.words) c.args.asked.now.settings.ready c.args.asked.now.script
          c.in_ok-script.script lines.result ran.0 c.in_ok-script.ensures.lines c.in_ok-script.ensures.named
          lines.ensures ran.1,
      record { to = carried.new.session; is_over = came.1.0; ran = came.1.1 },
      came.2,
    )
