-- Faults as they are told: with their causes, and with the name of the file that they are about.

use Rattle.std.specs.Prelude.{◌≡◌, ℕ, List, Option, Some, ◌⊎◌, codes, string_bytes}
use Rattle.std.specs.Option.{option_map}
use Rattle.std.specs.Str.Lines.{lines}
use Rattle.ws_script.specs.cause.ToldCauses.{IsLineTold}
use Rattle.ws_script.specs.declared.asked.fault.RunFault.{RunFault}
use Rattle.ws_script.specs.declared.asked.fault.RunFault.TheVariants as run
use Rattle.ws_script.specs.declared.asked.fault.ToldFault.{ToldFault}
use Rattle.ws_script.specs.declared.asked.fault.ToldFault.TheVariants.{Run, Line}
use Rattle.ws_script.specs.declared.cause.vocabulary.Vocabulary.TheVariants.{Items}
use Rattle.ws_program.specs.declared.command_fault.CommandFault.{CommandFault}
use Rattle.ws_program.specs.declared.command_fault.CommandFault.TheVariants.{Told, OfFile, Unwritten}
use Rattle.ws_program.specs.declared.words.command_line.InputAsked.{InputAsked}
use Rattle.ws_program.specs.declared.words.command_line.InputAsked.TheVariants.{Make, Trace}

-- an input can't be read, or a growth was refused in reading it
abbrev pub IsInputUnread : RunFault → Type 0
IsInputUnread fault = (fault ≡ run.Read) ⊎ (fault ≡ run.Memory)

-- a line of a recording that has another form is told with that form, or memory was wanted
abbrev pub IsOtherLineTold : ℕ → ToldFault → Type 0
IsOtherLineTold number (Line told cause) = (told ≡ number)
    × (string_bytes cause ≡ codes "it isn't `MILLISECONDS host|station HEX`")
IsOtherLineTold number told = told ≡ Run run.Memory

-- a fault of a command with its cause, where items as text or a traced recording have a bad line, and as it is otherwise
abbrev pub IsToldOf : InputAsked → List ℕ → ToldFault → RunFault → Type 0
IsToldOf (Make file sent raw) text told (run.Line number) = IsLineTold (Items sent) (lines text) number told
IsToldOf (Trace file form) text told (run.Line number) = IsOtherLineTold number told
IsToldOf asked text told fault = told ≡ Run fault

-- a fault that was met with a file is told with its name, or by itself; or memory was wanted for the name
abbrev pub IsOfFile : List ℕ → RunFault → CommandFault → Type 0
IsOfFile file fault (OfFile told name why) = (told ≡ fault) × (string_bytes name ≡ file)
IsOfFile file fault (Told told) = (told ≡ Run fault) ⊎ (told ≡ Run run.Memory)
IsOfFile file fault other = ⊥

-- A fault of a command that reads a file, where it reads one. That the file can't be read is told with its name, or by
-- itself; or memory was wanted for the name. That the output can't be written has a fault of its own, and any other is
-- told by itself.
abbrev pub IsToldOfFile : Option (List ℕ) → ToldFault → CommandFault → Type 0
IsToldOfFile file met (OfFile told name why) = (met ≡ Run run.Read) × (told ≡ run.Read)
    × (file ≡ Some (string_bytes name))
IsToldOfFile file met (Told told) = (told ≡ met) ⊎ ((met ≡ Run run.Read) × (told ≡ Run run.Memory))
IsToldOfFile file met Unwritten = met ≡ Run run.Write
IsToldOfFile file met other = ⊥

-- a fault of a command of an input, as it is told: of `make` and `trace` with its file
abbrev pub IsToldBy : InputAsked → ToldFault → CommandFault → Type 0
IsToldBy (Make file sent raw) met fault = IsToldOfFile (option_map (λ name. name.now) file) met fault
IsToldBy (Trace file form) met fault = IsToldOfFile (option_map (λ name. name.now) file) met fault
IsToldBy asked met fault = fault ≡ Told met
