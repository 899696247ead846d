-- A recording of what both ends of a connection sent, as an input: which bytes one of them sent.

use Rattle.std.specs.Prelude.{◌≡◌, ℕ, ◌+◌, ◌<◌, List, [], ◌∷◌, ◌++◌, true, codes, length}
use Rattle.std.specs.Char.{is_ascii_digit}
use Rattle.std.specs.List.{list_all}
use Rattle.std.specs.Str.Lines.{lines}
use Rattle.ws_program.specs.HexText.{IsHexOf}
use Rattle.ws_printing.specs.declared.script.ScriptFault.{ScriptFault}
use Rattle.ws_printing.specs.declared.script.ScriptFault.TheVariants.{Line, Memory}
use Rattle.ws_program.specs.declared.words.command_line.RecordedEnd.{RecordedEnd}
use Rattle.ws_program.specs.declared.words.command_line.RecordedEnd.TheVariants.{Host, Station}

-- who sent a piece, in its line
abbrev pub end_word : RecordedEnd → List ℕ
end_word Host = codes " host "
end_word Station = codes " station "

-- a time: one decimal digit or more
abbrev pub IsTime : List ℕ → Type 0
IsTime word = (0 < length word) × (list_all is_ascii_digit word ≡ true)

-- a line of a recording: milliseconds in decimal digits, who sent the piece, and its bytes as hex text
pub record IsPieceLine (line : List ℕ) (sender : RecordedEnd) (bytes : List ℕ) : Type 0 where
  pub milliseconds : List ℕ
  pub hex : List ℕ
  pub time : IsTime milliseconds
  pub said : line ≡ milliseconds ++ (end_word sender ++ hex)
  pub spelled : IsHexOf bytes hex

-- a line that is none of a recording
abbrev pub IsOtherLine : List ℕ → Type 0
IsOtherLine line = (sender : RecordedEnd) (bytes : List ℕ) → IsPieceLine line sender bytes → ⊥

-- a piece where the first end is the one that sent it, else nothing
abbrev pub piece_of : RecordedEnd → RecordedEnd → List ℕ → List ℕ
piece_of Host Host bytes = bytes
piece_of Host Station bytes = []
piece_of Station Host bytes = []
piece_of Station Station bytes = bytes

-- what an end sent by the lines of a recording: its pieces, one after another
abbrev pub AreSent : RecordedEnd → List (List ℕ) → List ℕ → Type 0
AreSent end [] bytes = bytes ≡ []
AreSent end (line ∷ more) bytes = (sender : RecordedEnd) × (piece rest : List ℕ) × IsPieceLine line sender piece
    × AreSent end more rest × (bytes ≡ piece_of end sender piece ++ rest)

-- what an end sent by the text of a recording; its lines are those of a script
abbrev pub IsSentIn : RecordedEnd → List ℕ → List ℕ → Type 0
IsSentIn end bytes text = AreSent end (lines text) bytes

-- the first line of a text, counted from 1, that is none of a recording
pub record IsFirstOther (text : List ℕ) (number : ℕ) : Type 0 where
  pub before : List (List ℕ)
  pub line : List ℕ
  pub after : List (List ℕ)
  pub split : lines text ≡ before ++ line ∷ after
  pub sent : (end : RecordedEnd) → (bytes : List ℕ) × AreSent end before bytes
  pub other : IsOtherLine line
  pub counted : number ≡ length before + 1

-- why a text gives no bytes of an end: a line that is none of a recording; or all are, and a growth was refused
abbrev pub IsRecordingFault : RecordedEnd → List ℕ → ScriptFault → Type 0
IsRecordingFault end text (Line number) = IsFirstOther text number
IsRecordingFault end text Memory = (bytes : List ℕ) × IsSentIn end bytes text
