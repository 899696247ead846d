use Rattle.ws_live.proofs.ConnectRuns.{reports, shows}
use Rattle.ws_live.proofs.live.connect.put_what.Goals as goal

pub returns-in_default-clause-runs : goal.returns-in_default-clause-runs
returns-in_default-clause-runs g c =
    let shown = rw (c.page.ensures, c.status.ensures, c.end-station.ensures) at c.put_report-output.ensures in
    reports c.args.report.now c.in_default.not-Note (shows c.take_what_came-wait.ensures.taken shown
    c.put_waited.ensures.outcome c.put_waited.ensures.text)
