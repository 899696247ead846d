use Rattle.std.specs.Prelude.{Bool, true}
use Rattle.std.proofs.Common.{ℕ, List, inl, inr, subst}
use Rattle.std.proofs.lemmas.Result.{err_from_is_err_and}
use Rattle.ws_nego.specs.declared.terminal.TerminalType.TheVariants.{Ibm3179Model2}
use Rattle.ws_session.specs.declared.world.Move.{Move}
use Rattle.ws_session.specs.world.Reports.{IsReport}
use Rattle.ws_session.specs.world.Session.{new_session, after_moves}
use Rattle.ws_script.specs.asked.RunFaults.{script_run_fault}
use Rattle.ws_printing.specs.declared.script.ScriptFault.{ScriptFault}
use Rattle.ws_printing.specs.declared.script.ScriptFault.TheVariants.{Line, Memory}
use Rattle.ws_printing.specs.script.ScriptFaults.{IsScriptFault}
use Rattle.ws_network.specs.TcpFaults.{tcp_run_fault}
use Rattle.ws_network.specs.declared.tcp.TcpFault.{TcpFault}
use Rattle.ws_network.specs.declared.tcp.TcpFault.TheVariants as tcp
use Rattle.ws_program.specs.Answering.{IsUnplayedBy, SpellsMoves}
use Rattle.ws_program.proofs.program.report_of.Goals as goal

-- a script isn't read
unread : (tcp : Bool) (script : List ℕ) (fault : ScriptFault) → IsScriptFault script fault
    → IsUnplayedBy tcp script (script_run_fault fault)
unread tcp script (Line number) bad = bad
unread tcp script Memory good = inl good

-- a connection fails
unconnected : (script : List ℕ) → SpellsMoves script → (fault : TcpFault)
    → IsUnplayedBy true script (tcp_run_fault fault)
unconnected script is tcp.Memory = inr is
unconnected script is fault = is

pub returns-in_err-moves-clause-fault : goal.returns-in_err-moves-clause-fault
returns-in_err-moves-clause-fault g c =
    let p = err_from_is_err_and c.from_residual.result c.from_residual.ensures.1 in
    rw (p.1, p.2) (unread c.args.tcp c.args.script.now _ c.in_err-moves.ensures.fault)

pub returns-in_err-play_tcp-clause-fault : goal.returns-in_err-play_tcp-clause-fault
returns-in_err-play_tcp-clause-fault g c =
    let p = err_from_is_err_and c.from_residual-in_err-play_tcp.result c.from_residual-in_err-play_tcp.ensures.1 in
    rw (p.1, p.2, c.if-tcp.true)
    (unconnected c.args.script.now (c.in_ok-moves.moves.items, c.in_ok-moves.ensures.moves) _)

pub returns-then-tcp-clause-ok : goal.returns-then-tcp-clause-ok
returns-then-tcp-clause-ok g c = rw c.if-tcp.true (c.in_ok-moves.moves.items, c.in_ok-moves.ensures.moves)

pub returns-in_err-run-clause-fault : goal.returns-in_err-run-clause-fault
returns-in_err-run-clause-fault g c =
    let p = err_from_is_err_and c.from_residual-in_err-run.result c.from_residual-in_err-run.ensures.1 in
    rw (p.1, p.2, c.in_err-run.ensures.fault)
    (inr (c.in_ok-moves.moves.items, c.in_ok-moves.ensures.moves))

pub returns-clause-ok : goal.returns-clause-ok
returns-clause-ok g c = rw c.if-tcp.false (
  c.in_ok-moves.moves.items,
  c.in_ok-moves.ensures.moves,
  subst (λ (ms : List Move). IsReport c.in_ok-run.field-0 (after_moves (new_session Ibm3179Model2) ms))
      c.as_slice-2.ensures.value c.in_ok-run.ensures.done,
)
