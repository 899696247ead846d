use Rattle.std.proofs.Common.{[], refl}
use Rattle.ws_text.proofs.Prints.{prints_both, prints_none}
use Rattle.ws_live.proofs.ConnectRuns.{shows}
use Rattle.ws_live.proofs.live.connect.StationLineNamedLiveMove.carry_out.Goals as goal

pub returns-in-Nothing-clause-runs : goal.returns-in-Nothing-clause-runs
returns-in-Nothing-clause-runs g c =
    rw (c.in-Nothing.is, c.new.ensures.0, c.new.ensures.1)
    ([], (refl, refl, refl), prints_none g.O.Sink.writer c.args.out.now c.args.output)

pub returns-in-Await-clause-runs : goal.returns-in-Await-clause-runs
returns-in-Await-clause-runs g c =
    let t = c.wait_for-wait.ensures.waited in
    let closes = rw t.2 at c.put_waited.ensures.outcome in
    rw c.in-Await.is (
      _,
      (t.0, c.wait_for-wait.result.waited, c.wait_for-wait.new.ahead, t.1, closes, refl, refl),
      prints_both t.3 c.put_waited.ensures.text,
    )

pub returns-in-Fields-clause-runs : goal.returns-in-Fields-clause-runs
returns-in-Fields-clause-runs g c =
    let shown = rw (c.page.ensures, c.screen-screen.ensures.screen, c.display.ensures, c.end-station.ensures) at
    c.put_field_lines-output.ensures in
    rw c.in-Fields.is (shows c.take_what_came-wait.ensures.taken shown c.put_waited-in-Fields.ensures.outcome
    c.put_waited-in-Fields.ensures.text)

pub returns-in-Show-clause-runs : goal.returns-in-Show-clause-runs
returns-in-Show-clause-runs g c =
    let shown = rw (c.page-in-Show.ensures, c.display-in-Show.ensures, c.end-station-in-Show.ensures) at
    c.put_display-output.ensures in
    rw c.in-Show.is (shows c.take_what_came-wait-in-Show.ensures.taken shown c.put_waited-in-Show.ensures.outcome
    c.put_waited-in-Show.ensures.text)

pub returns-in-Meanwhile-clause-runs : goal.returns-in-Meanwhile-clause-runs
returns-in-Meanwhile-clause-runs g c =
    let wait = c.take_what_came-wait-in-Meanwhile in
    rw c.in-Meanwhile.is (shows wait.ensures.taken
    ([], refl, prints_none g.O.Sink.writer wait.new.out wait.result.output) c.put_waited-in-Meanwhile.ensures.outcome
    c.put_waited-in-Meanwhile.ensures.text)
