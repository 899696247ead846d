-- Records at a station, one more at a time, and what is told of a wait.

use Rattle.std.specs.List.{flat_map}
use Rattle.std.specs.Option.{is_none}
use Rattle.std.specs.Prelude.{Result, Option, Some}
use Rattle.std.proofs.Common.{◌≡◌, ℕ, ◌+◌, List, [], ◌∷◌, ◌++◌, Bool, true, false, ◌&&◌, length, refl, sym, ap, ◌∙◌}
use Rattle.std.proofs.Common.{arith, length-append}
use Rattle.std.proofs.Math.Bool.{and-true}
use Rattle.std.proofs.lemmas.List.Folds.{list_all-append}
use Rattle.ws_code.specs.Device.{Writer}
use Rattle.ws_code.specs.declared.fault.Fault.{Fault}
use Rattle.ws_text.specs.Printing.{Prints}
use Rattle.ws_text.specs.declared.output.Output.{Output}
use Rattle.ws_text.proofs.Prints.{prints_both, prints_same}
use Rattle.ws_printing.specs.ReportLines.{IsReportText}
use Rattle.ws_printing.specs.declared.place_and_reason.PlaceAndReason.{PlaceAndReason}
use Rattle.ws_printing.specs.declared.station_report.StationReport.{StationReport}
use Rattle.ws_printing.specs.declared.station_report.StationReport.TheVariants as reported
use Rattle.ws_live.specs.declared.live.Closing.{Closing}
use Rattle.ws_live.specs.declared.live.waiting.Waited.{Waited}
use Rattle.ws_live.specs.declared.live.waiting.Waited.TheVariants as waits
use Rattle.ws_live.specs.declared.live.watch.WaitSpan.TheVariants.{AtOnce}
use Rattle.ws_live.specs.live.ConnectText.{IsWorking, Reports, ShowsStation, WaitsFor, WatchedAndAhead, none_refused}
use Rattle.ws_live.specs.live.ConnectText.{record_text, report_waits, rested, waited_outcome, waited_text}
use Rattle.ws_live.specs.live.LiveText.{line_result}
use Rattle.ws_live.specs.live.Operating.{LiveStation, station_page}
use Rattle.ws_live.specs.live.Watches.{WatchedDevices}

-- a line that has taken what came, and then shows something
pub shows : {S K O : Type 0} {at : LiveStation} {on : WatchedDevices S K} {IsText : at.Station → List ℕ → Type 0}
    {from to : WatchedAndAhead at on} {outcome : Result Closing Fault} {well : Bool} {waited : Waited} {writer : Writer O}
    {a b c d : O} {i j k l : Output} → ((records : List (Option PlaceAndReason)) × (ended : Waited)
    × WaitsFor at on (λ station ahead. ⊥) from records ended to × (waited ≡ rested true ended)
    × (well ≡ none_refused records) × Prints writer a b i j (flat_map record_text records))
    → ((shown : List ℕ) × IsText to.0.end shown × Prints writer b c j k shown)
    → outcome ≡ waited_outcome well waited → Prints writer c d k l (waited_text waited)
    → (text : List ℕ) × ShowsStation at on IsText from (line_result outcome text) to × Prints writer a d i l text
shows taken shown closes ends = (
  flat_map record_text taken.0 ++ shown.0 ++ waited_text (rested true taken.1),
  record {
    records = taken.0;
    ended = taken.1;
    taken = taken.2;
    shown = shown.0;
    is = shown.1;
    closes = rw (taken.4, taken.3) at closes;
    all = refl;
  },
  prints_both (prints_both taken.5 shown.2) (prints_same (ap waited_text taken.3) ends),
)

-- one record more was refused, or none
pub one_more_refused : (records : List (Option PlaceAndReason)) (one : Option PlaceAndReason)
    → (none_refused records && is_none one) ≡ none_refused (records ++ one ∷ [])
one_more_refused records one = sym (list_all-append is_none records (one ∷ [])
    ∙ ap (λ b. none_refused records && b) (and-true (is_none one)))

pub waits_on : (records : List (Option PlaceAndReason)) (one : Option PlaceAndReason) (count : ℕ)
    → length records ≡ count → length (records ++ one ∷ []) ≡ count + 1
waits_on records one count e = omega (arith, e, length-append records (one ∷ []))

-- a report that is no note
pub reports : {S K O : Type 0} {at : LiveStation} {on : WatchedDevices S K} {from to : WatchedAndAhead at on}
    {outcome : Result Closing Fault} {writer : Writer O} {a b : O} {i j : Output} (report : StationReport)
    → ((note : List ℕ) → report ≡ reported.Note note → ⊥) → ((text : List ℕ)
    × ShowsStation at on (λ station. IsReportText (station_page at station) (at.seen.reported station) report)
    from (line_result outcome text) to × Prints writer a b i j text)
    → (text : List ℕ) × Reports at on report from (line_result outcome text) to × Prints writer a b i j text
reports (reported.Note note) other h = absurd (other note refl)
reports report other h = h
