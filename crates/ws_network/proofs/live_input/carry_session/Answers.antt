use Rattle.std.proofs.Common.{refl, true}
use Rattle.std.proofs.lemmas.Result.{err_from_is_err_and}
use Rattle.ws_live.specs.live.Watches.{InTime}
use Rattle.ws_network.specs.SessionPrinting.{session_lines}
use Rattle.ws_network.proofs.SessionPrinted.{script_fails}
use Rattle.ws_network.proofs.live_input.carry_session.Goals as goal

pub returns-in_err-carry_lines-in-Some-clause-printed : goal.returns-in_err-carry_lines-in-Some-clause-printed
returns-in_err-carry_lines-in-Some-clause-printed g c =
    let p = err_from_is_err_and c.from_residual.result c.from_residual.ensures.1 in
    let e = c.in_err-carry_lines-in-Some in
    let lines = c.in-Some.lines.now in
    let session = session_lines (λ told. InTime (g.L.LiveMove.runs g.W.Watch.tells told) g.L.LiveMove.waits
    g.W.Watch.times) c.args.settings c.args.session.now lines c.carry_lines.new.session in
    rw (p.1, p.2, c.in-Some.is) (lines, refl, script_fails session true e.field-0.0 e.ensures.printed)

pub returns-in_ok-carry_lines-in-Some-clause-printed : goal.returns-in_ok-carry_lines-in-Some-clause-printed
returns-in_ok-carry_lines-in-Some-clause-printed g c =
    let e = c.in_ok-carry_lines-in-Some in
    rw c.in-Some.is (
      c.in-Some.lines.now,
      refl,
      (e.ensures.printed.0, (e.field-0, e.ensures.printed.1, refl), e.ensures.printed.2),
    )

pub returns-in-None-clause-printed : goal.returns-in-None-clause-printed
returns-in-None-clause-printed g c =
    let e = c.carry_input.ensures.printed in
    rw (c.in-None.is) (e.0, e.1, e.2)
