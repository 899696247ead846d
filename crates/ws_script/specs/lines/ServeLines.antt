-- The lines of a script for a host of one station.

use Rattle.std.specs.Prelude.{◌≡◌, ◌≢◌, ◌⊎◌, ℕ, ◌+◌, ◌-◌, ◌^◌, List, [], ◌++◌, codes, min, None, Some}
use Rattle.std.specs.Str.{IsUtf8}
use Rattle.ws_record.specs.declared.opcode.Opcode.{Opcode}
use Rattle.ws_record.specs.declared.record.Record.{Record}
use Rattle.ws_end.specs.declared.end_step.HostRequest.TheVariants.{Send, Cancel}
use Rattle.ws_stream.specs.declared.element.Element.{Element}
use Rattle.ws_stream.specs.Elements.{element_rules}
use Rattle.ws_text.specs.ElementWords.{element_wording}
use Rattle.ws_text.specs.BodyLines.{AddUnits, IsAddFault, new_record}
use Rattle.ws_text.specs.declared.items.TextFault.TheVariants as items
use Rattle.ws_script.specs.lines.ConnectLines.{IsNothing}
use Rattle.ws_script.specs.lines.LiveScript.{LineLanguage}
use Rattle.ws_printing.specs.script.KeyNames.{aid_named}
use Rattle.ws_printing.specs.script.Script.{IsSendOpcode, IsRecordText}
use Rattle.ws_printing.specs.script.ScriptFaults.{IsSendLine}
use Rattle.ws_script.specs.lines.WireLines.{IsWireBegun, MeansWire}
use Rattle.ws_script.specs.declared.lines.serve_line.AnswerAwaited.{AnswerAwaited}
use Rattle.ws_script.specs.declared.lines.serve_line.AnswerAwaited.TheVariants.{Any, By}
use Rattle.ws_script.specs.declared.lines.serve_line.HostLine.{HostLine}
use Rattle.ws_script.specs.declared.lines.serve_line.HostLine.TheVariants.{Nothing, Give, Await, AwaitAnswer, Show, Wire, Bad}

-- the answer that the words after `await` are for: any, or one by the key of a name
abbrev pub IsAnswerAwaited : List ℕ → AnswerAwaited → Type 0
IsAnswerAwaited words Any = words ≡ codes "answer"
IsAnswerAwaited words (By aid) = aid_named words ≡ Some aid

-- an empty line, a comment, or `end`, which ends the lines that belong to the one before
abbrev pub IsIdle : List ℕ → Type 0
IsIdle line = IsNothing line ⊎ (line ≡ codes "end")

-- what a line means by itself; none means one that is bad
abbrev pub MeansHostLine : List ℕ → HostLine → Type 0
MeansHostLine line Nothing = IsIdle line
MeansHostLine line (Give (Send opcode body)) = (words : List ℕ) × (line ≡ codes "send " ++ words)
    × IsRecordText words opcode body
MeansHostLine line (Give Cancel) = line ≡ codes "cancel"
MeansHostLine line Await = line ≡ codes "await"
MeansHostLine line (AwaitAnswer awaited) = (words : List ℕ) × (line ≡ codes "await " ++ words)
    × IsAnswerAwaited words awaited
MeansHostLine line Show = line ≡ codes "show"
MeansHostLine line (Wire wire) = MeansWire line wire
MeansHostLine line (Bad cause) = ⊥

-- the lines that take memory: one that sends a record, up to the record's body, or works on the connection
abbrev pub IsHostBegun : List ℕ → Type 0
IsHostBegun line = IsSendLine line ⊎ IsWireBegun line

-- a line that sends a record, and says no more of it than its opcode
abbrev pub SendsAlone : List ℕ → List ℕ → Opcode → Type 0
SendsAlone line number opcode = IsUtf8 line × (line ≡ codes "send " ++ number) × IsSendOpcode number opcode

-- elements may stand after such a line
abbrev pub OpensHostBlock : List ℕ → Type 0
OpensHostBlock line = (number : List ℕ) × (opcode : Opcode) × SendsAlone line number opcode

-- a record is sent with the elements that the lines after its line say
abbrev pub SendsInWords : List ℕ → List (List ℕ) → HostLine → Type 0
SendsInWords line elements read = (number : List ℕ) × (opcode : Opcode) × (r : Record Element)
    × SendsAlone line number opcode × AddUnits element_rules element_wording elements (new_record opcode) r
    × (read ≡ Give (Send opcode r.body))

-- a line of such a script, and the lines of elements after it
abbrev pub IsHostLine : List ℕ → List (List ℕ) → HostLine → Type 0
IsHostLine line elements read = ((elements ≡ []) × IsUtf8 line × MeansHostLine line read)
    ⊎ ((elements ≢ []) × SendsInWords line elements read)

-- a line up to what takes memory
abbrev pub BeginsHostLine : List ℕ → Type 0
BeginsHostLine line = (IsUtf8 line × IsHostBegun line) ⊎ OpensHostBlock line

-- where elements are bad after their line, which is the first: at the first line that adds none to the record, counted
-- as far as 64 bits count
abbrev pub AreBadAt : Opcode → List (List ℕ) → ℕ → Type 0
AreBadAt opcode elements at = (number : ℕ)
    × IsAddFault element_rules element_wording elements (new_record opcode) (items.Line number)
    × (at ≡ min (number + 1) (2 ^ 64 - 1))

-- where a line is bad with the elements after it: at itself, or in these
abbrev pub IsBadHostLineAt : List ℕ → List (List ℕ) → ℕ → Type 0
IsBadHostLineAt line elements at = ((at ≡ 1) × ((elements ≡ []) ⊎ (OpensHostBlock line → ⊥)))
    ⊎ ((number : List ℕ) × (opcode : Opcode) × SendsAlone line number opcode × AreBadAt opcode elements at)

-- the lines of such scripts
abbrev pub host_language : LineLanguage HostLine
host_language = record {
  means = IsHostLine;
  begins = BeginsHostLine;
  opener = OpensHostBlock;
  bad_at = IsBadHostLineAt;
  bad_line = λ cause. Bad cause;
  meanwhile = None;
}
