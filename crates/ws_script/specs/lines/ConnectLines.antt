-- The lines of a script for a station at a host, whose display has keys by these words.

use Rattle.std.specs.Prelude.{◌≡◌, ◌≢◌, ℕ, ◌≤◌, ◌⊎◌, List, [], ◌++◌, true, false, codes, string_bytes}
use Rattle.std.specs.Prelude.{Some}
use Rattle.std.specs.Str.{IsUtf8}
use Rattle.ws_code.specs.Address.{IsRowAndColumn, place_of}
use Rattle.ws_code.specs.declared.address.TheConstants.{CELLS}
use Rattle.ws_screen.specs.declared.format_table.TheConstants.{MAX_FIELDS}
use Rattle.ws_text.specs.Words.{IsCell, IsNumber, IsSmall}
use Rattle.ws_script.specs.lines.LiveScript.{LineLanguage}
use Rattle.ws_printing.specs.script.KeyWords.{AreKeysOf, AreNamed, KeyWords}
use Rattle.ws_script.specs.declared.lines.connect_line.StationLine.{StationLine}
use Rattle.ws_script.specs.declared.lines.connect_line.StationLine.TheVariants.{Nothing, Press, Await, Fields, Show, Bad}
use Rattle.ws_script.specs.declared.lines.connect_line.StationLine.TheVariants.{Meanwhile}
use Rattle.ws_script.specs.declared.lines.connect_line.StationLine.TheVariants.{Stroke as StrokeLine}
use Rattle.ws_script.specs.declared.lines.connect_line.StationLine.TheVariants.{Report as ReportLine}
use Rattle.ws_printing.specs.declared.station_report.StationReport.{StationReport}
use Rattle.ws_printing.specs.declared.station_report.StationReport.TheVariants.{Status, Cells, Text as ShownText, Note}
use Rattle.ws_printing.specs.declared.station_report.Span.{Span}
use Rattle.ws_script.specs.declared.lines.script_stroke.FieldFilling.{FieldFilling}
use Rattle.ws_script.specs.declared.lines.script_stroke.ScriptStroke.{ScriptStroke}
use Rattle.ws_script.specs.declared.lines.script_stroke.ScriptStroke.TheVariants.{Cursor, NewLine, EraseEof, Fill}
use Rattle.ws_script.specs.declared.lines.connect_line.Awaited.{Awaited}
use Rattle.ws_script.specs.declared.lines.connect_line.Awaited.TheVariants.{Turn, Record, Text, At, Quiet}

-- an empty line, or a comment
abbrev pub IsNothing : List ℕ → Type 0
IsNothing line = (line ≡ []) ⊎ ((text : List ℕ) × (line ≡ codes "#" ++ text))

-- a cell by its row and its column, and what stands after them
abbrev pub IsPlaced : List ℕ → ℕ → List ℕ → Type 0
IsPlaced words cell rest = (row : List ℕ) × (behind : List ℕ) × (column : List ℕ)
    × (words ≡ row ++ codes " " ++ behind) × (behind ≡ column ++ codes " " ++ rest) × IsCell row column cell

-- the words are a text of one character at least
abbrev pub IsSomeText : List ℕ → List ℕ → Type 0
IsSomeText words text = (text ≡ words) × (text ≢ [])

-- a time in milliseconds, up to an hour
abbrev pub IsMilliseconds : List ℕ → ℕ → Type 0
IsMilliseconds word time = IsNumber word time × (1 ≤ time) × (time ≤ 3600000)

-- what is awaited by the words after `await`
abbrev pub IsAwaited : List ℕ → Awaited → Type 0
IsAwaited words Turn = ⊥
IsAwaited words Record = words ≡ codes "record"
IsAwaited words (Text text) = (words ≡ codes "text " ++ string_bytes text) × (string_bytes text ≢ [])
IsAwaited words (At cell text) = (placed : List ℕ) × (words ≡ codes "at " ++ placed)
    × IsPlaced placed cell (string_bytes text) × (string_bytes text ≢ [])
IsAwaited words (Quiet time) = (word : List ℕ) × (words ≡ codes "quiet " ++ word) × IsMilliseconds word time

-- the lines that wait
abbrev pub MeansWait : List ℕ → Awaited → Type 0
MeansWait line awaited = ((line ≡ codes "await") × (awaited ≡ Turn))
    ⊎ ((words : List ℕ) × (line ≡ codes "await " ++ words) × IsAwaited words awaited)

-- the words of a text after the row and the column of its first cell
abbrev pub IsTextPlaced : List ℕ → Type 0
IsTextPlaced words = (cell : ℕ) × (text : List ℕ) × IsPlaced words cell text × (text ≢ [])

-- the words of a wait for a text, anywhere or at a cell
abbrev pub IsTextAwaited : List ℕ → Type 0
IsTextAwaited words = ((text : List ℕ) × (words ≡ codes "text " ++ text) × (text ≢ []))
    ⊎ ((placed : List ℕ) × (words ≡ codes "at " ++ placed) × IsTextPlaced placed)

-- a line that waits for one
abbrev pub IsTextWait : List ℕ → Type 0
IsTextWait line = (words : List ℕ) × (line ≡ codes "await " ++ words) × IsTextAwaited words

-- the cell of a row and a column
abbrev pub IsCellText : List ℕ → ℕ → Type 0
IsCellText words cell = (row : List ℕ) × (column : List ℕ) × (words ≡ row ++ codes " " ++ column)
    × IsCell row column cell

-- a row, by its first cell
abbrev pub IsRowText : List ℕ → ℕ → Type 0
IsRowText word cell = (row : ℕ) × IsSmall word row × IsRowAndColumn row 1 × (cell ≡ place_of row 1)

-- how many cells: at most those of a screen
abbrev pub IsCellCount : List ℕ → ℕ → Type 0
IsCellCount word count = IsNumber word count × (1 ≤ count) × (count ≤ CELLS)

-- cells, by the first of them and their number
abbrev pub IsSpanText : List ℕ → Span → Type 0
IsSpanText words span = (count : List ℕ) × IsPlaced words span.at count × IsCellCount count span.count

-- the lines that print what they ask for
abbrev pub MeansReport : List ℕ → StationReport → Type 0
MeansReport line Status = line ≡ codes "status"
MeansReport line (Cells cell) = (word : List ℕ) × (line ≡ codes "cells " ++ word) × IsRowText word cell
MeansReport line (ShownText span) = (words : List ℕ) × (line ≡ codes "show " ++ words) × IsSpanText words span
MeansReport line (Note note) = line ≡ codes "note " ++ note

-- the number of a field that a screen may have
abbrev pub IsFieldNumber : List ℕ → ℕ → Type 0
IsFieldNumber word number = IsNumber word number × (1 ≤ number) × (number ≤ MAX_FIELDS)

module _ {Q : Type 0} (w : KeyWords Q) where
  -- the lines that press keys
  pub data MeansKeys (line : List ℕ) (keys : List Q) : Type 0 where
    typed : (text : List ℕ) → line ≡ codes "type " ++ text → AreKeysOf w false text keys → MeansKeys line keys
    inserted : (text : List ℕ) → line ≡ codes "insert " ++ text → AreKeysOf w true text keys → MeansKeys line keys
    named : (name : List ℕ) → line ≡ codes "key " ++ name → AreNamed w name keys → MeansKeys line keys

  -- the field of a number, and keys for the characters of the text after it
  abbrev pub IsFilling : List ℕ → FieldFilling Q → Type 0
  IsFilling words filling = (word : List ℕ) × (text : List ℕ) × (words ≡ word ++ codes " " ++ text)
      × IsFieldNumber word filling.number × AreKeysOf w false text filling.keys

  -- the lines that press keys by the screen
  abbrev pub MeansStroke : List ℕ → ScriptStroke Q → Type 0
  MeansStroke line (Cursor cell) = (words : List ℕ) × (line ≡ codes "cursor " ++ words) × IsCellText words cell
  MeansStroke line NewLine = line ≡ codes "newline"
  MeansStroke line EraseEof = line ≡ codes "erase"
  MeansStroke line (Fill filling) = (words : List ℕ) × (line ≡ codes "field " ++ words) × IsFilling words filling

  -- what a line means; none means one that is bad
  abbrev pub MeansStationLine : List ℕ → StationLine Q → Type 0
  MeansStationLine line Nothing = IsNothing line
  MeansStationLine line (Press keys) = MeansKeys line keys
  MeansStationLine line (StrokeLine stroke) = MeansStroke line stroke
  MeansStationLine line (Await awaited) = MeansWait line awaited
  MeansStationLine line Fields = line ≡ codes "fields"
  MeansStationLine line Show = line ≡ codes "show"
  MeansStationLine line (ReportLine report) = MeansReport line report
  MeansStationLine line (Bad cause) = ⊥
  MeansStationLine line Meanwhile = ⊥

  -- the lines of such scripts, which are UTF-8: no line belongs to one before it
  abbrev pub station_language : LineLanguage (StationLine Q)
  station_language = record {
    means = λ line inside read. (inside ≡ []) × IsUtf8 line × MeansStationLine line read;
    begins = λ line. IsUtf8 line × IsTextWait line;
    opener = λ line. ⊥;
    bad_at = λ line inside at. at ≡ 1;
    bad_line = λ cause. Bad cause;
    meanwhile = Some Meanwhile;
  }
