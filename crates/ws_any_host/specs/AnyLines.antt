-- The lines of a script for a host that takes any record.

use Rattle.std.specs.Prelude.{◌≡◌, ◌≢◌, ◌⊎◌, ℕ, ◌+◌, ◌-◌, ◌^◌, List, [], ◌++◌, codes, min, None, Some}
use Rattle.std.specs.Str.{IsUtf8}
use Rattle.ws_code.specs.Code.{spelling_of}
use Rattle.ws_record.specs.Grammar.{opcode_byte}
use Rattle.ws_record.specs.declared.opcode.Opcode.{Opcode}
use Rattle.ws_record.specs.declared.record.Record.{Record}
use Rattle.ws_extended.specs.ExtendedElements.{extended_rules}
use Rattle.ws_extended.specs.declared.extended_element.ExtendedElement.{ExtendedElement}
use Rattle.ws_text.specs.BodyLines.{AddUnits, IsAddFault, new_record}
use Rattle.ws_text.specs.ExtendedWords.{extended_wording}
use Rattle.ws_text.specs.Words.{IsNumber, IsHex}
use Rattle.ws_text.specs.declared.items.TextFault.{TextFault}
use Rattle.ws_text.specs.declared.items.TextFault.TheVariants as items
use Rattle.ws_printing.specs.script.KeyNames.{aid_named}
use Rattle.ws_script.specs.lines.LiveScript.{LineLanguage}
use Rattle.ws_script.specs.lines.ServeLines.{IsIdle}
use Rattle.ws_script.specs.lines.WireLines.{IsWireBegun, MeansWire}
use Rattle.ws_any_host.specs.declared.any_line.AnyLine.{AnyLine}
use Rattle.ws_any_host.specs.declared.any_line.AnyLine.TheVariants.{Nothing, Send, Await, AwaitKey, Wire, Bad}

-- a record that a script sends: its flags are all off
abbrev pub sent : Opcode → List ℕ → Record ℕ
sent opcode body = record { flags = 0; opcode = opcode; body = body }

-- any opcode, in decimal
abbrev pub IsOpcode : List ℕ → Opcode → Type 0
IsOpcode number opcode = IsNumber number (opcode_byte opcode)

-- an opcode, and after a blank a body in hex
abbrev pub IsOpcodeAndBody : List ℕ → Opcode → List ℕ → Type 0
IsOpcodeAndBody words opcode body = (number : List ℕ) × (hex : List ℕ) × (words ≡ (number ++ codes " ") ++ hex)
    × IsOpcode number opcode × IsHex hex body

-- the words of a record to be sent: its opcode, and its body where it has one
abbrev pub IsSendText : List ℕ → Record ℕ → Type 0
IsSendText words r = (opcode : Opcode) × (body : List ℕ) × (r ≡ sent opcode body)
    × ((IsOpcode words opcode × (body ≡ [])) ⊎ IsOpcodeAndBody words opcode body)

-- what a line means by itself; none means one that is bad
abbrev pub MeansAnyLine : List ℕ → AnyLine → Type 0
MeansAnyLine line Nothing = IsIdle line
MeansAnyLine line (Send r) = (words : List ℕ) × (line ≡ codes "send " ++ words) × IsSendText words r
MeansAnyLine line Await = line ≡ codes "await"
MeansAnyLine line (AwaitKey aid) = (name : List ℕ) × (line ≡ codes "await " ++ name) × (aid_named name ≡ Some aid)
MeansAnyLine line (Wire wire) = MeansWire line wire
MeansAnyLine line (Bad cause) = ⊥

-- a line by itself, which is UTF-8
abbrev pub IsOneAnyLine : List ℕ → AnyLine → Type 0
IsOneAnyLine line read = IsUtf8 line × MeansAnyLine line read

-- the words of a record to be sent, up to its body
abbrev pub IsAnySendBegun : List ℕ → Type 0
IsAnySendBegun words = (number : List ℕ) × (hex : List ℕ) × (opcode : Opcode) × (words ≡ (number ++ codes " ") ++ hex)
    × IsOpcode number opcode

-- the lines that take memory: one that sends a record, up to its body, or works on the connection
abbrev pub IsLineBegun : List ℕ → Type 0
IsLineBegun line = ((words : List ℕ) × (line ≡ codes "send " ++ words) × IsAnySendBegun words) ⊎ IsWireBegun line

-- a line that sends a record, and says no more of it than its opcode
abbrev pub SendsAnyOpcodeAlone : List ℕ → List ℕ → Opcode → Type 0
SendsAnyOpcodeAlone line number opcode = IsUtf8 line × (line ≡ codes "send " ++ number) × IsOpcode number opcode

-- elements may stand after such a line
abbrev pub OpensAnyBlock : List ℕ → Type 0
OpensAnyBlock line = (number : List ℕ) × (opcode : Opcode) × SendsAnyOpcodeAlone line number opcode

-- lines say a live host's elements, of a record of the opcode; these bytes spell them
abbrev pub SayBytes : List (List ℕ) → Opcode → List ℕ → Type 0
SayBytes elements opcode body = (r : Record ExtendedElement)
    × AddUnits extended_rules extended_wording elements (new_record opcode) r
    × (body ≡ spelling_of extended_rules r.body)

-- why they say none
abbrev pub IsWordFault : List (List ℕ) → Opcode → TextFault → Type 0
IsWordFault elements opcode why = IsAddFault extended_rules extended_wording elements (new_record opcode) why

-- a record is sent with the bytes of the elements that the lines after its line say
abbrev pub SendsBytesInWords : List ℕ → List (List ℕ) → AnyLine → Type 0
SendsBytesInWords line elements read = (number : List ℕ) × (opcode : Opcode) × (body : List ℕ)
    × SendsAnyOpcodeAlone line number opcode × SayBytes elements opcode body × (read ≡ Send (sent opcode body))

-- a line of such a script, and the lines of elements after it
abbrev pub IsAnyLine : List ℕ → List (List ℕ) → AnyLine → Type 0
IsAnyLine line elements read = ((elements ≡ []) × IsOneAnyLine line read)
    ⊎ ((elements ≢ []) × SendsBytesInWords line elements read)

-- a line up to what takes memory
abbrev pub BeginsAnyLine : List ℕ → Type 0
BeginsAnyLine line = (IsUtf8 line × IsLineBegun line) ⊎ OpensAnyBlock line

-- where elements are bad after their line, which is the first: at the first line that adds none to the record, counted
-- as far as 64 bits count
abbrev pub AreExtendedBadAt : Opcode → List (List ℕ) → ℕ → Type 0
AreExtendedBadAt opcode elements at = (number : ℕ) × IsWordFault elements opcode (items.Line number)
    × (at ≡ min (number + 1) (2 ^ 64 - 1))

-- where a line is bad with the elements after it: at itself, or in these
abbrev pub IsBadAnyLineAt : List ℕ → List (List ℕ) → ℕ → Type 0
IsBadAnyLineAt line elements at = ((at ≡ 1) × ((elements ≡ []) ⊎ (OpensAnyBlock line → ⊥)))
    ⊎ ((number : List ℕ) × (opcode : Opcode) × SendsAnyOpcodeAlone line number opcode
    × AreExtendedBadAt opcode elements at)

-- the lines of such scripts
abbrev pub any_language : LineLanguage AnyLine
any_language = record {
  means = IsAnyLine;
  begins = BeginsAnyLine;
  opener = OpensAnyBlock;
  bad_at = IsBadAnyLineAt;
  bad_line = λ cause. Bad cause;
  meanwhile = None;
}
