-- What a line of a script for a station says.

use Rattle.std.specs.Prelude.{codes, string_bytes, [], ◌∷◌, Option, None, Some}
use Rattle.std.proofs.Common.{◌≡◌, ◌≢◌, ℕ, List, ◌++◌, true, inl, inr, refl}
use Rattle.ws_script.specs.declared.lines.connect_line.Awaited.{Awaited}
use Rattle.ws_script.specs.declared.lines.connect_line.Awaited.TheVariants.{Turn, Record, Text, At, Quiet}
use Rattle.ws_script.specs.declared.lines.connect_line.StationLine.{StationLine}
use Rattle.ws_script.specs.declared.lines.connect_line.StationLine.TheVariants.{Nothing, Press, Await, Fields, Show, Bad}
use Rattle.ws_script.specs.declared.lines.connect_line.StationLine.TheVariants.{Meanwhile}
use Rattle.ws_script.specs.declared.lines.connect_line.StationLine.TheVariants.{Stroke as StrokeLine, Report as ReportLine}
use Rattle.ws_printing.specs.declared.station_report.StationReport.TheVariants.{Status, Cells, Text as ShownText, Note}
use Rattle.ws_printing.specs.declared.station_report.Span.{Span}
use Rattle.ws_script.specs.declared.lines.script_stroke.FieldFilling.{FieldFilling}
use Rattle.ws_script.specs.declared.lines.script_stroke.ScriptStroke.TheVariants.{Cursor, NewLine, EraseEof, Fill}
use Rattle.ws_script.specs.lines.ConnectLines.{IsNothing, IsRowText, IsSpanText, IsCellText, IsFilling, IsAwaited, MeansStationLine}
use Rattle.ws_script.specs.lines.ConnectLines.{IsMilliseconds, IsTextPlaced}
use Rattle.ws_script.specs.lines.ConnectLines.MeansKeys.{typed, inserted, named}
use Rattle.ws_printing.specs.script.KeyWords.{AreNamed, KeyWords}
use Rattle.ws_printing.specs.script.ScriptFaults.{has_no_blank}
use Rattle.ws_script.proofs.FirstWords.{Says, Unless, at, of_command, unless, unsaid}

-- what the words after `await` say
abbrev pub wait_rows : List ℕ → List (List ℕ × Type 0)
wait_rows rest = (codes "text", rest ≢ []) ∷ (codes "at", IsTextPlaced rest)
    ∷ (codes "quiet", (time : ℕ) × IsMilliseconds rest time) ∷ []

abbrev pub awaits : Option (List ℕ) → List ℕ → Type 0
awaits None word = Unit {0}
awaits (Some rest) word = at ⊥ word (wait_rows rest)

pub awaited_says : (words : List ℕ) (awaited : Awaited) → IsAwaited words awaited → Says awaits words
awaited_says words Turn m = absurd m
awaited_says words Record m = (codes "record", None, refl, m, tt)
awaited_says words (Text text) m = (codes "text", Some (string_bytes text), refl, m.0, m.1)
awaited_says words (At cell text) m = (codes "at", Some m.0, refl, m.1, (cell, string_bytes text, m.2, m.3))
awaited_says words (Quiet time) m = (codes "quiet", Some m.0, refl, m.1, (time, m.2))

pub no_wait : (words kind rest : List ℕ) → words ≡ (kind ++ codes " ") ++ rest → has_no_blank kind ≡ true
    → Unless ((awaited : Awaited) → IsAwaited words awaited → ⊥) kind (wait_rows rest)
no_wait words kind rest is free = unless ⊥ kind (wait_rows rest) (λ none awaited m.
    none (λ h. h) (of_command awaits words kind rest is free (awaited_says words awaited m)))

module _ {Q : Type 0} (w : KeyWords Q) where
  -- the commands, with what the words of each have to be
  abbrev pub command_rows : List ℕ → List (List ℕ × Type 0)
  command_rows words = (codes "type", Unit {0}) ∷ (codes "insert", Unit {0})
      ∷ (codes "key", (keys : List Q) × AreNamed w words keys) ∷ (codes "await", (a : Awaited) × IsAwaited words a)
      ∷ (codes "cursor", (cell : ℕ) × IsCellText words cell)
      ∷ (codes "field", (filling : FieldFilling Q) × IsFilling w words filling)
      ∷ (codes "cells", (cell : ℕ) × IsRowText words cell) ∷ (codes "show", (span : Span) × IsSpanText words span)
      ∷ (codes "note", Unit {0}) ∷ []

  abbrev pub IsSaid : Option (List ℕ) → List ℕ → Type 0
  IsSaid None word = Unit {0}
  IsSaid (Some words) word = at ⊥ word (command_rows words)

  pub says : (line : List ℕ) → (IsNothing line → ⊥) → (read : StationLine Q) → MeansStationLine w line read
      → Says IsSaid line
  says line some Nothing m = absurd (some m)
  says line some (Press keys) (typed text e k) = (codes "type", Some text, refl, e, tt)
  says line some (Press keys) (inserted text e k) = (codes "insert", Some text, refl, e, tt)
  says line some (Press keys) (named name e k) = (codes "key", Some name, refl, e, (keys, k))
  says line some (StrokeLine (Cursor cell)) m = (codes "cursor", Some m.0, refl, m.1, (cell, m.2))
  says line some (StrokeLine NewLine) m = (codes "newline", None, refl, m, tt)
  says line some (StrokeLine EraseEof) m = (codes "erase", None, refl, m, tt)
  says line some (StrokeLine (Fill filling)) m = (codes "field", Some m.0, refl, m.1, (filling, m.2))
  says line some (Await awaited) (inl m) = (codes "await", None, refl, m.0, tt)
  says line some (Await awaited) (inr m) = (codes "await", Some m.0, refl, m.1, (awaited, m.2))
  says line some Fields m = (codes "fields", None, refl, m, tt)
  says line some Show m = (codes "show", None, refl, m, tt)
  says line some (Bad cause) m = absurd m
  says line some Meanwhile m = absurd m
  says line some (ReportLine Status) m = (codes "status", None, refl, m, tt)
  says line some (ReportLine (Cells cell)) m = (codes "cells", Some m.0, refl, m.1, (cell, m.2))
  says line some (ReportLine (ShownText span)) m = (codes "show", Some m.0, refl, m.1, (span, m.2))
  says line some (ReportLine (Note note)) m = (codes "note", Some note, refl, m, tt)

  module _ (line command words : List ℕ) (is : line ≡ (command ++ codes " ") ++ words)
      (free : has_no_blank command ≡ true) (some : IsNothing line → ⊥) where
    pub no_station_words : (name : List ℕ) → command ≡ name → (IsSaid (Some words) name → ⊥) → (read : StationLine Q)
        → MeansStationLine w line read → ⊥
    no_station_words name is_name =
        unsaid IsSaid (MeansStationLine w line) line command words name is free is_name (says line some)

    pub no_station_command : Unless ((read : StationLine Q) → MeansStationLine w line read → ⊥) command
        (command_rows words)
    no_station_command = unless ⊥ command (command_rows words) (λ none read m.
        none (λ h. h) (of_command IsSaid line command words is free (says line some read m)))
