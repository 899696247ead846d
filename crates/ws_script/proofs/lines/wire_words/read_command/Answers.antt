use Rattle.std.specs.Prelude.{codes}
use Rattle.std.proofs.Common.{◌++◌, List, ℕ, inr, ap, ◌∙◌, refl}
use Rattle.ws_script.specs.lines.WireLines.{IsCommandSaid, MeansWire}
use Rattle.ws_script.proofs.FirstWords.{told_on, unsaid}
use Rattle.ws_script.proofs.LiveLines.{no_wire, wire_says, wires}
use Rattle.ws_script.proofs.lines.wire_words.read_command.Goals as goal

pub returns-in_err-read_telnet-in-telnet-clause-fault : goal.returns-in_err-read_telnet-in-telnet-clause-fault
returns-in_err-read_telnet-in-telnet-clause-fault c =
    let line = c.args.line.now in
    let words = c.args.words.now in
    told_on (IsCommandSaid line) (MeansWire line) c.from_residual-in_err-read_telnet-in-telnet.result _
    c.from_residual-in_err-read_telnet-in-telnet.ensures.1
    (λ none. unsaid (wires line) (MeansWire line) line c.args.command.now words (codes "telnet") c.requires.is
    c.requires.no_blank c.in-telnet.is (wire_says line)
    (λ (s : (bytes : List ℕ) × IsCommandSaid line bytes). none s.0 s.1))
    (λ says. inr ((words, c.requires.is ∙ ap (λ z. (z ++ codes " ") ++ words) c.in-telnet.is), says))
    c.in_err-read_telnet-in-telnet.ensures.fault

pub returns-in_default-clause-fault : goal.returns-in_default-clause-fault
returns-in_default-clause-fault c = (
  refl,
  no_wire c.args.line.now c.args.command.now c.args.words.now c.requires.is c.requires.no_blank
      c.in_default.not-pause c.in_default.not-raw c.in_default.not-telnet,
)
