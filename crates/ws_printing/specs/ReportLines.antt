-- The lines that tell a station's state and what is on its screen, as a text in bytes. Numbers are in decimal, bytes in
-- upper case hex.

use Rattle.std.specs.Prelude.{◌≡◌, ℕ, ◌+◌, ◌-◌, ◌*◌, ◌/◌, List, [], ◌∷◌, ◌++◌, Bool, Option, None, Some, codes}
use Rattle.std.specs.Prelude.{if◌then◌else◌, position, slice_range}
use Rattle.std.specs.Fmt.{decimal}
use Rattle.std.specs.List.{flat_map}
use Rattle.hex.specs.Hex.{encode_upper}
use Rattle.ws_code.specs.declared.address.TheConstants.{COLUMNS}
use Rattle.ws_code.specs.declared.code_page.CodePage.{CodePage}
use Rattle.ws_screen.specs.Lines.{shown_row}
use Rattle.ws_screen.specs.ScreenParts.{ScreenParts, holds}
use Rattle.ws_text.specs.ItemLines.{cell_text}
use Rattle.ws_printing.specs.Characters.{characters_text, without_last_blanks}
use Rattle.ws_printing.specs.FieldLines.{shown_from}
use Rattle.ws_printing.specs.ScreenLines.{lock_name}
use Rattle.ws_printing.specs.declared.station_report.StationReport.{StationReport}
use Rattle.ws_printing.specs.declared.station_report.Span.{Span}
use Rattle.ws_printing.specs.declared.station_report.StationStatus.{StationStatus}
use Rattle.ws_printing.specs.declared.station_report.StationReport.TheVariants.{Status, Cells, Text, Note}

-- whether records may be sent both ways
abbrev pub ready_name : Bool → List ℕ
ready_name ready = if ready then codes " ready " else codes " negotiating "

-- a field's number, counted from 1, by its index; nothing where there is none
abbrev pub field_name : Option ℕ → List ℕ
field_name None = []
field_name (Some index) = codes " field " ++ decimal (index + 1)

-- what a report can tell of a station: its screen, whether it is ready, how many records it has applied, and how many
-- bytes it has taken
pub record ReportedStation : Type 0 where
  pub screen : ScreenParts
  pub is_ready : Bool
  pub records : ℕ
  pub taken : ℕ

-- this of its status
abbrev pub reported_by : StationStatus → ReportedStation
reported_by status = record {
  screen = status.screen.now;
  is_ready = status.is_ready;
  records = status.records;
  taken = status.taken;
}

-- how the keyboard is, whether the station is ready, the cursor, the field that holds it, where one does, and how many
-- records were applied, and bytes taken
abbrev pub status_line : ReportedStation → List ℕ
status_line station = let s = station.screen in codes "status " ++ lock_name s.locked ++ ready_name station.is_ready
    ++ cell_text s.cursor ++ field_name (position (λ f. holds f s.cursor) s.fields)
    ++ codes " records " ++ decimal station.records ++ codes " bytes " ++ decimal station.taken ++ codes "\n"

-- what the cells of a row hold, which counts from 1
abbrev pub row_bytes : List ℕ → ℕ → List ℕ
row_bytes cells row = slice_range cells ((row - 1) * COLUMNS) ((row - 1) * COLUMNS + COLUMNS)

-- what the cells of a row hold, and the attributes under which they show: of the row in which a cell stands
abbrev pub cells_line : List ℕ → ℕ → List ℕ
cells_line cells cell = let row = cell / COLUMNS + 1 in codes "cells " ++ decimal row ++ codes " "
    ++ encode_upper (row_bytes cells row) ++ codes " "
    ++ flat_map (λ s. encode_upper (s.attribute ∷ [])) (shown_row cells row) ++ codes "\n"

-- what cells show on a page, without the blanks at its end
abbrev pub span_line : CodePage → List ℕ → Span → List ℕ
span_line page cells span = characters_text (λ s. s.character)
    (without_last_blanks (λ s. s.character) (shown_from page cells span.at span.count)) ++ codes "\n"

-- a note's line
abbrev pub note_line : List ℕ → List ℕ
note_line note = note ++ codes "\n"

-- what a report tells of a station whose text is on a page
abbrev pub report_text : CodePage → ReportedStation → StationReport → List ℕ
report_text page station Status = status_line station
report_text page station (Cells cell) = cells_line station.screen.cells cell
report_text page station (Text span) = span_line page station.screen.cells span
report_text page station (Note note) = note_line note

-- this is what a report tells of such a station
abbrev pub IsReportText : CodePage → ReportedStation → StationReport → List ℕ → Type 0
IsReportText page station report text = text ≡ report_text page station report
