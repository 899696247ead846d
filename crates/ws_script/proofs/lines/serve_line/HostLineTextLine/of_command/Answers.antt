use Rattle.std.specs.Prelude.{codes}
use Rattle.std.proofs.Common.{◌++◌, List, ℕ, inl, inr, sym, subst}
use Rattle.ws_session.specs.declared.world.Move.{Move}
use Rattle.ws_printing.specs.script.Script.{IsMove}
use Rattle.ws_printing.specs.script.ScriptFaults.{IsSendLine}
use Rattle.ws_printing.proofs.Scripts.{fault_on}
use Rattle.ws_script.specs.lines.ServeLines.{MeansHostLine}
use Rattle.ws_script.specs.lines.WireLines.{MeansWire}
use Rattle.ws_script.proofs.FirstWords.{unsaid}
use Rattle.ws_script.proofs.LiveLines.{IsSaid, no_host_command, says}
use Rattle.ws_script.proofs.lines.serve_line.HostLineTextLine.of_command.Goals as goal

pub returns-in-Err-clause-fault : goal.returns-in-Err-clause-fault
returns-in-Err-clause-fault c =
    let line = c.args.line.now in
    let command = c.args.command.now in
    let words = c.args.words.now in
    let is = c.requires.is in
    fault_on (IsMove ((command ++ codes " ") ++ words)) (MeansHostLine line) c.in-Err.fault
    (λ none. unsaid (IsSaid line) (MeansHostLine line) line command words (codes "send") is c.requires.no_blank
    c.in-send.is (says line c.requires.some)
    (λ (s : (step : Move) × IsMove line step). none s.0 (subst (λ (z : List ℕ). IsMove z s.0) is s.1)))
    (λ begun. inr (inl (subst IsSendLine (sym is) begun))) c.in-Err.ensures.fault

pub returns-in-Err-read_wire-clause-fault : goal.returns-in-Err-read_wire-clause-fault
returns-in-Err-read_wire-clause-fault c =
    let line = c.args.line.now in
    fault_on (MeansWire line) (MeansHostLine line) c.in-Err-read_wire.fault
    (λ none. no_host_command line c.args.command.now c.args.words.now c.requires.is c.requires.no_blank c.requires.some
    none c.in_default.not-send c.in_default.not-await) (λ begun. inr (inr begun)) c.in-Err-read_wire.ensures.fault
