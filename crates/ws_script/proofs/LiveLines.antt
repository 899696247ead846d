-- What a line of a script for a host says.

use Rattle.std.specs.Prelude.{codes, Option, None, Some}
use Rattle.std.proofs.Common.{◌≡◌, ℕ, List, [], ◌∷◌, ◌++◌, true, inl, inr, refl}
use Rattle.ws_end.specs.declared.end_step.HostRequest.TheVariants.{Send, Cancel}
use Rattle.ws_session.specs.declared.world.Move.{Move}
use Rattle.ws_session.specs.declared.world.Move.TheVariants as moves
use Rattle.ws_script.specs.declared.lines.serve_line.AnswerAwaited.{AnswerAwaited}
use Rattle.ws_script.specs.declared.lines.serve_line.HostLine.{HostLine}
use Rattle.ws_script.specs.declared.lines.serve_line.HostLine.TheVariants as host
use Rattle.ws_script.specs.declared.lines.wire_line.WireLine.{WireLine}
use Rattle.ws_script.specs.declared.lines.wire_line.WireLine.TheVariants as wire
use Rattle.ws_script.specs.lines.ConnectLines.{IsMilliseconds, IsNothing}
use Rattle.ws_script.specs.lines.ServeLines.{IsAnswerAwaited, MeansHostLine}
use Rattle.ws_script.specs.lines.WireLines.{IsCommandSaid, MeansWire}
use Rattle.ws_text.specs.Words.{IsHex}
use Rattle.ws_text.specs.declared.items.TextFault.TheVariants as items
use Rattle.ws_printing.specs.script.Script.{IsMove}
use Rattle.ws_printing.specs.script.ScriptFaults.{has_no_blank}
use Rattle.ws_script.proofs.FirstWords.{Says, Unless, at, of_command, unless}

-- what a line of the connection says
abbrev pub wire_rows : List ℕ → List ℕ → List (List ℕ × Type 0)
wire_rows line words = (codes "pause", (time : ℕ) × IsMilliseconds words time)
    ∷ (codes "raw", (bytes : List ℕ) × IsHex words bytes)
    ∷ (codes "telnet", (bytes : List ℕ) × IsCommandSaid line bytes) ∷ []

abbrev pub wires : List ℕ → Option (List ℕ) → List ℕ → Type 0
wires line None word = Unit {0}
wires line (Some words) word = at ⊥ word (wire_rows line words)

pub wire_says : (line : List ℕ) (read : WireLine) → MeansWire line read → Says (wires line) line
wire_says line (wire.Raw bytes) (inl m) = (codes "raw", Some m.0, refl, m.1, (bytes, m.2))
wire_says line (wire.Raw bytes) (inr m) = (codes "telnet", Some m.0.0, refl, m.0.1, (bytes, m.1))
wire_says line (wire.Pause time) m = (codes "pause", Some m.0, refl, m.1, (time, m.2))
wire_says line wire.Close m = (codes "close", None, refl, m, tt)

pub no_wire : (line command words : List ℕ) → line ≡ (command ++ codes " ") ++ words → has_no_blank command ≡ true
    → Unless ((read : WireLine) → MeansWire line read → ⊥) command (wire_rows line words)
no_wire line command words is free = unless ⊥ command (wire_rows line words) (λ none read m.
    none (λ h. h) (of_command (wires line) line command words is free (wire_says line read m)))

-- a bad line is no want of memory
pub line_no_memory : (at : ℕ) → items.Line at ≡ items.Memory → ⊥
line_no_memory at e = cc

-- what a line with more than one word says, other than one of the connection
abbrev pub command_rows : List ℕ → List ℕ → List (List ℕ × Type 0)
command_rows line words = (codes "send", (step : Move) × IsMove line step)
    ∷ (codes "await", (awaited : AnswerAwaited) × IsAnswerAwaited words awaited) ∷ []

abbrev pub IsSaid : List ℕ → Option (List ℕ) → List ℕ → Type 0
IsSaid line None word = Unit {0}
IsSaid line (Some words) word = at ((read : WireLine) × MeansWire line read) word (command_rows line words)

pub says : (line : List ℕ) → (IsNothing line → ⊥) → (read : HostLine) → MeansHostLine line read
    → Says (IsSaid line) line
says line some host.Nothing (inl m) = absurd (some m)
says line some host.Nothing (inr m) = (codes "end", None, refl, m, tt)
says line some (host.Give (Send opcode body)) m = (codes "send", Some m.0, refl, m.1, (moves.Send opcode body, m))
says line some (host.Give Cancel) m = (codes "cancel", None, refl, m, tt)
says line some host.Await m = (codes "await", None, refl, m, tt)
says line some (host.AwaitAnswer awaited) m = (codes "await", Some m.0, refl, m.1, (awaited, m.2))
says line some host.Show m = (codes "show", None, refl, m, tt)
says line some (host.Wire (wire.Raw bytes)) (inl m) = (codes "raw", Some m.0, refl, m.1, (wire.Raw bytes, inl m))
says line some (host.Wire (wire.Raw bytes)) (inr m) = (codes "telnet", Some m.0.0, refl, m.0.1, (wire.Raw bytes, inr m))
says line some (host.Wire (wire.Pause time)) m = (codes "pause", Some m.0, refl, m.1, (wire.Pause time, m))
says line some (host.Wire wire.Close) m = (codes "close", None, refl, m, tt)
says line some (host.Bad cause) m = absurd m

pub no_host_command : (line command words : List ℕ) → line ≡ (command ++ codes " ") ++ words
    → has_no_blank command ≡ true → (IsNothing line → ⊥) → ((read : WireLine) → MeansWire line read → ⊥)
    → Unless ((read : HostLine) → MeansHostLine line read → ⊥) command (command_rows line words)
no_host_command line command words is free some wired =
    unless ((read : WireLine) × MeansWire line read) command (command_rows line words) (λ none read m.
    none (λ s. wired s.0 s.1) (of_command (IsSaid line) line command words is free (says line some read m)))
