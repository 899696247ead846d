use Rattle.std.proofs.Common.{Bool, subst, sym}
use Rattle.std.specs.Result.{IfOk}
use Rattle.ws_printing.specs.Printouts.{printout}
use Rattle.ws_network.specs.LiveSessions.{HasServedAs}
use Rattle.ws_network.proofs.live_session.serve.Goals as goal

pub returns-then-asked-clause-ran : goal.returns-then-asked-clause-ran
returns-then-asked-clause-ran g c = subst (λ (any : Bool). IfOk c.serve_lines.result
    (HasServedAs (printout g.O.Sink.writer c.args.out.now.sink c.serve_lines.new.out.sink) any c.args.asked.now))
    (sym c.if-asked.true) c.serve_lines.ensures.ran
