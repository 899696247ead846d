use Rattle.std.specs.Option.{is_some}
use Rattle.std.proofs.lemmas.Result.{err_from_is_err_and}
use Rattle.ws_live.specs.declared.live.Telling.{Telling}
use Rattle.ws_live.specs.live.Watches.{InTime}
use Rattle.ws_network.specs.SessionPrinting.{session_lines}
use Rattle.ws_network.proofs.SessionPrinted.{goes_on_badly, goes_on_well, session_fails, session_stops}
use Rattle.ws_network.proofs.served_line.carry_and_go_on.Goals as goal

pub returns-in_err-ran-clause-printed : goal.returns-in_err-ran-clause-printed
returns-in_err-ran-clause-printed g c =
    let p = err_from_is_err_and c.from_residual.result c.from_residual.ensures.1 in
    let e = c.in_err-ran.ensures.printed in
    let does = λ (told : Telling). InTime (g.L.LiveMove.runs g.W.Watch.tells told) g.L.LiveMove.waits g.W.Watch.times in
    let session = session_lines does c.args.settings c.args.session.now e.0 c.carry_session.new.session in
    rw (p.1, p.2) (
      e.0,
      e.1,
      session_fails session g.L.HostedLine.served.await_next g.O.Sink.writer (is_some c.args.script)
          c.args.out.now.sink c.carry_session.new.out.sink c.in_err-ran.field-0.0 e.2,
    )

pub returns-then-ran-clause-printed : goal.returns-then-ran-clause-printed
returns-then-ran-clause-printed g c =
    let e = c.in_ok-ran.ensures.printed in
    let does = λ (told : Telling). InTime (g.L.LiveMove.runs g.W.Watch.tells told) g.L.LiveMove.waits g.W.Watch.times in
    let session = session_lines does c.args.settings c.args.session.now e.0 c.carry_session.new.session in (
      e.0,
      e.1,
      session_stops session g.L.HostedLine.served.await_next g.O.Sink.writer (is_some c.args.script)
          c.args.out.now.sink c.carry_session.new.out.sink c.in_ok-ran.ran e.2 c.if-ran.true,
    )

pub returns-in_err-is_well-clause-printed : goal.returns-in_err-is_well-clause-printed
returns-in_err-is_well-clause-printed g c =
    let p = err_from_is_err_and c.from_residual-in_err-is_well.result c.from_residual-in_err-is_well.ensures.1 in
    let e = c.in_ok-ran.ensures.printed in
    let does = λ (told : Telling). InTime (g.L.LiveMove.runs g.W.Watch.tells told) g.L.LiveMove.waits g.W.Watch.times in
    let session = session_lines does c.args.settings c.args.session.now e.0 c.carry_on.new.session in
    rw (p.1, p.2) (
      e.0,
      e.1,
      goes_on_badly session g.L.HostedLine.served.await_next g.O.Sink.writer (is_some c.args.script)
          c.args.out.now.sink c.carry_on.new.out.sink c.carry_session.new.session c.carry_session.new.out.sink
          c.in_ok-ran.ran e.2 c.if-ran.false c.in_err-is_well.field-0.0
          (rw c.await_next.ensures at c.in_err-is_well.ensures.printed),
    )

pub returns-clause-printed : goal.returns-clause-printed
returns-clause-printed g c =
    let e = c.in_ok-ran.ensures.printed in
    let does = λ (told : Telling). InTime (g.L.LiveMove.runs g.W.Watch.tells told) g.L.LiveMove.waits g.W.Watch.times in
    let session = session_lines does c.args.settings c.args.session.now e.0 c.carry_on.new.session in (
      e.0,
      e.1,
      goes_on_well session g.L.HostedLine.served.await_next g.O.Sink.writer (is_some c.args.script)
          c.args.out.now.sink c.carry_on.new.out.sink c.carry_session.new.session c.carry_session.new.out.sink
          c.in_ok-ran.ran e.2 c.if-ran.false c.in_ok-is_well.is_well
          (rw c.await_next.ensures at c.in_ok-is_well.ensures.printed),
    )
