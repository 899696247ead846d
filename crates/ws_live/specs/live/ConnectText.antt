-- What a line of a script for a station does there, and what it prints.

use Rattle.std.specs.Prelude.{◌≡◌, ℕ, ◌<◌, List, [], ◌∷◌, ◌++◌, ◌⊎◌, Bool, true, false, ◌&&◌, Option, None}
use Rattle.std.specs.Prelude.{Some}
use Rattle.std.specs.Prelude.{Result, Ok, Err, MatchResult, string_bytes, length, if◌then◌else◌, codes, encode_utf8}
use Rattle.std.specs.List.{flat_map, list_all}
use Rattle.std.specs.Option.{is_none}
use Rattle.ws_code.specs.Device.{Devices, most_reads, one_more}
use Rattle.ws_code.specs.declared.fault.Fault.{Fault}
use Rattle.ws_code.specs.declared.fault.Fault.TheVariants as fault
use Rattle.ws_end.specs.Acts.{Did}
use Rattle.ws_end.specs.attached.Attachments.{AttachedParts, HaveLedUnwritten, HasHeard, IsHearFault}
use Rattle.ws_end.specs.attached.Requests.{HasActed}
use Rattle.ws_end.specs.declared.attached.acted.Acted.{Acted}
use Rattle.ws_end.specs.declared.attached.acted.Acted.TheVariants as acted
use Rattle.ws_end.specs.declared.station.key_fault.KeyFault.{KeyFault}
use Rattle.ws_session.specs.declared.world.Event.TheVariants.{StationRefused}
use Rattle.ws_printing.specs.FieldLines.{AreFieldLines}
use Rattle.ws_printing.specs.PlaceAndReason.{place_and_reason}
use Rattle.ws_printing.specs.PlayLines.{event_text, key_fault_name}
use Rattle.ws_live.specs.live.Sentences.{sentence_line, station_sentences}
use Rattle.ws_printing.specs.ReportLines.{IsReportText, note_line}
use Rattle.ws_printing.specs.ScreenLines.{IsDisplayText, look}
use Rattle.ws_printing.specs.ShownTexts.{BeginsAt, ShowsText}
use Rattle.ws_printing.specs.declared.place_and_reason.PlaceAndReason.{PlaceAndReason}
use Rattle.ws_printing.specs.declared.station_report.StationReport.{StationReport}
use Rattle.ws_printing.specs.declared.station_report.StationReport.TheVariants.{Note}
use Rattle.ws_script.specs.declared.lines.script_stroke.FieldFault.{FieldFault}
use Rattle.ws_script.specs.declared.lines.script_stroke.FieldFault.TheVariants.{NoSuchField, TooLong}
use Rattle.ws_script.specs.declared.lines.connect_line.StationLine.{StationLine}
use Rattle.ws_script.specs.declared.lines.connect_line.StationLine.TheVariants.{Nothing as NoLine, Press, Stroke, Await}
use Rattle.ws_script.specs.declared.lines.connect_line.StationLine.TheVariants.{Fields, Show, Report, Meanwhile, Bad}
use Rattle.ws_script.specs.declared.lines.connect_line.Awaited.{Awaited}
use Rattle.ws_script.specs.declared.lines.connect_line.Awaited.TheVariants.{Turn, Record, Text, At, Quiet}
use Rattle.ws_script.specs.lines.Stroking.{stroke_keys}
use Rattle.ws_live.specs.live.LiveText.{LineResult, LinesDo, bad_outcome, bad_text, line_behind}
use Rattle.ws_live.specs.live.LiveText.{line_result}
use Rattle.ws_live.specs.live.Operating.{LiveStation, station_page, station_screen}
use Rattle.ws_live.specs.live.Watches.{InTime, WatchTells, WatchTimes, WatchedDevices}
use Rattle.ws_live.specs.declared.live.Closing.{Closing}
use Rattle.ws_live.specs.declared.live.Closing.TheVariants.{Nothing, Done, Declined, Late, Ended, Stopped}
use Rattle.ws_live.specs.declared.live.LiveSession.{LiveSession}
use Rattle.ws_live.specs.declared.live.Telling.{Telling}
use Rattle.ws_live.specs.declared.live.pressing.Untaken.{Untaken}
use Rattle.ws_live.specs.declared.live.pressing.Untaken.TheVariants.{Refused, Unfilled, Unwritten}
use Rattle.ws_live.specs.declared.live.waiting.Waited.{Waited}
use Rattle.ws_live.specs.declared.live.waiting.Waited.TheVariants.{Met, Late as WasLate, Ended as HasEnded, Failed}
use Rattle.ws_live.specs.declared.live.watch.WaitSpan.{WaitSpan}
use Rattle.ws_live.specs.declared.live.watch.WaitSpan.TheVariants.{Whole, AtOnce, Quiet as UntilQuiet}

-- how long a wait for this lasts
abbrev pub span_of : Awaited → WaitSpan
span_of (Quiet time) = UntilQuiet time
span_of awaited = Whole

-- how long a line waits that reports: not at all where it only prints a note
abbrev pub report_waits : StationReport → Option WaitSpan
report_waits (Note note) = None
report_waits report = Some AtOnce

-- how long a line waits, if it does: one that shows something takes what has come
abbrev pub station_waits : {Q : Type 0} → StationLine Q → Option WaitSpan
station_waits (Await awaited) = Some (span_of awaited)
station_waits Fields = Some AtOnce
station_waits Show = Some AtOnce
station_waits (Report report) = report_waits report
station_waits Meanwhile = Some AtOnce
station_waits line = None

-- how a line closes that was carried out: nothing of it was refused, or something was
abbrev pub closing_by : Bool → Closing
closing_by well = if well then Done else Declined

-- how a line that waits closes, where no record was refused or one was
abbrev pub waited_outcome : Bool → Waited → Result Closing Fault
waited_outcome well Met = Ok (closing_by well)
waited_outcome well WasLate = Ok Late
waited_outcome well HasEnded = Ok Ended
waited_outcome well (Failed (fault.Refused place reason)) = Ok Stopped
waited_outcome well (Failed why) = Err why

-- what the end of a wait prints: the station's refusal of a byte and what its reason says, or nothing
abbrev pub waited_text : Waited → List ℕ
waited_text (Failed (fault.Refused place reason)) = event_text (StationRefused place reason)
    ++ station_sentences reason
waited_text waited = []

-- what is printed of a record: where in the session and why it was refused, if it was, and what the reason says
abbrev pub record_text : Option PlaceAndReason → List ℕ
record_text None = []
record_text (Some why) = codes "record refused at " ++ place_and_reason why.0 why.1 ++ sentence_line why.1

-- none of the records was refused
abbrev pub none_refused : List (Option PlaceAndReason) → Bool
none_refused records = list_all is_none records

-- how many records are ahead after one: one more, as far as 64 bits count, if it was carried out
abbrev pub ahead_after : ℕ → Option PlaceAndReason → ℕ
ahead_after ahead None = one_more ahead
ahead_after ahead (Some why) = ahead

-- what becomes of a wait at which a read failed, late or not
abbrev pub unread_by : Bool → Waited
unread_by late = if late then WasLate else Failed fault.Read

-- a wait whose time is over is met if it may rest
abbrev pub rested : Bool → Waited → Waited
rested rests WasLate = if rests then Met else WasLate
rested rests waited = waited

-- a wait for this may rest: one for quiet does, where nothing came
abbrev pub Rests : {S : Type 0} → WatchTells S → Awaited → S → Bool → Type 0
Rests tells (Quiet time) source rests = tells.is_quiet source rests
Rests tells awaited source rests = rests ≡ false

-- after a wait that no fault ended the end goes on
abbrev pub IsWorking : Waited → Bool → Type 0
IsWorking (Failed why) broken = Unit {0}
IsWorking waited broken = broken ≡ false

-- the character that a key enters, where it enters one, after a blank
abbrev pub entered_behind : Option ℕ → List ℕ
entered_behind None = []
entered_behind (Some character) = codes " " ++ encode_utf8 character

-- the line of a key that is refused: why, the character that it would have entered, and the number of its script's line
abbrev pub key_refused_line : Option ℕ → Option ℕ → KeyFault → List ℕ
key_refused_line line entered why =
    codes "key refused " ++ key_fault_name why ++ entered_behind entered ++ line_behind line ++ codes "\n"

-- why a field can't be filled
abbrev pub field_fault_word : FieldFault → List ℕ
field_fault_word NoSuchField = codes "NoSuchField"
field_fault_word TooLong = codes "TooLong"

-- what is printed of keys by a line of this number: which was refused, or why the field can't be filled
abbrev pub pressed_text : Option ℕ → Result (Unit {0}) Untaken → List ℕ
pressed_text line (Err (Refused entered why)) = key_refused_line line entered why
pressed_text line (Err (Unfilled why)) =
    codes "field refused " ++ field_fault_word why ++ line_behind line ++ codes "\n"
pressed_text line pressed = []

-- how they close
abbrev pub pressed_outcome : Result (Unit {0}) Untaken → Result Closing Fault
pressed_outcome (Ok taken) = Ok Done
pressed_outcome (Err (Unwritten why)) = Err why
pressed_outcome (Err untaken) = Ok Declined

-- how keys close that close so, and one after them
abbrev pub closing_of_both : Closing → Closing → Closing
closing_of_both Done next = next
closing_of_both closing next = closing

-- What is awaited holds of a station, where so many records are ahead. No station is quiet by itself.
abbrev pub IsMet : (at : LiveStation) → Awaited → at.Station → ℕ → Type 0
IsMet at Turn station ahead = at.operated.IsTurn (at.seen.display station)
IsMet at (Text text) station ahead =
    ShowsText (station_page at station) (station_screen at station).cells (string_bytes text)
IsMet at (At cell text) station ahead =
    BeginsAt (station_page at station) (station_screen at station).cells cell (string_bytes text)
IsMet at Record station ahead = 0 < ahead
IsMet at (Quiet time) station ahead = ⊥

module _ {S K : Type 0} (at : LiveStation) (devices : Devices S K) where
  -- such a station on a source and a sink
  abbrev pub AttachedStation : Type 0
  AttachedStation = AttachedParts at.Station S K

  -- one call of `hear` leads from there to there, up to a record, and this came of the record
  abbrev pub HearsRecord : AttachedStation → Option PlaceAndReason → AttachedStation → Type 0
  HearsRecord from refused to = (told : at.Event)
      × HasHeard at.behaviour devices from to (Some told) × (refused ≡ at.seen.refused to.end told)

  -- a key of the station's own was pressed: what it sends went out, or it was refused, and nothing is changed; no byte
  -- was read or taken
  abbrev pub HasPressed : at.Key → AttachedStation → Acted KeyFault → AttachedStation → Type 0
  HasPressed key from acted to = HasActed devices (at.keyed key) from to (Ok acted)

  -- one was pressed, and what it sends didn't go out
  abbrev pub HasPressedUnwritten : at.Key → AttachedStation → AttachedStation → Type 0
  HasPressedUnwritten key from to =
      HaveLedUnwritten (at.keyed key).behaviour devices from to (Did (at.keyed key).request ∷ [])

  -- what the key comes to that follows one that was taken, if one does: why it is refused isn't told
  abbrev pub Followed : Option at.Key → AttachedStation → Result (Unit {0}) Untaken → AttachedStation → Type 0
  Followed None from came to = (to ≡ from) × (came ≡ Ok tt)
  Followed (Some next) from (Ok taken) to = (untold : Acted KeyFault) × HasPressed next from untold to
  Followed (Some next) from (Err why) to = HasPressedUnwritten next from to × (why ≡ Unwritten fault.Write)

  -- what a key comes to: it is taken, and the one that follows it is pressed; or it is refused, and none is; or what it
  -- sends doesn't go out
  abbrev pub KeyComes : at.Pressed → AttachedStation → Result (Unit {0}) Untaken → AttachedStation → Type 0
  KeyComes key from came to =
      ((mid : AttachedStation) × HasPressed (at.typing.typed from.end key) from acted.Done mid
      × Followed (at.typing.follows from.end key) mid came to)
      ⊎ (((why : KeyFault) × HasPressed (at.typing.typed from.end key) from (acted.Refused why) to
      × (came ≡ Err (Refused (at.words.entered key) why)))
      ⊎ (HasPressedUnwritten (at.typing.typed from.end key) from to × (came ≡ Err (Unwritten fault.Write))))

  -- what keys one after another come to, up to the first that isn't taken
  abbrev pub KeysCome : List at.Pressed → AttachedStation → Result (Unit {0}) Untaken → AttachedStation → Type 0
  KeysCome [] from came to = (to ≡ from) × (came ≡ Ok tt)
  KeysCome (key ∷ keys) from came to =
      ((mid : AttachedStation) × KeyComes key from (Ok tt) mid × KeysCome keys mid came to)
      ⊎ ((why : Untaken) × KeyComes key from (Err why) to × (came ≡ Err why))

  -- what the keys of a stroke come to; where the field that it names can't be filled none is pressed
  abbrev pub StrokeComes : Result (List at.Pressed) FieldFault → AttachedStation → Result (Unit {0}) Untaken
      → AttachedStation → Type 0
  StrokeComes (Err why) from came to = (to ≡ from) × (came ≡ Err (Unfilled why))
  StrokeComes (Ok keys) from came to = KeysCome keys from came to

  -- What keys one after another come to, up to one that isn't written, where a line of this number tells of each that is
  -- refused; those before them closed so, and printed this.
  abbrev pub KeysRun : Option ℕ → Closing → List ℕ → LinesDo (List at.Pressed) AttachedStation
  KeysRun line closing text [] from came to = (to ≡ from) × (came ≡ line_result (Ok closing) text)
  KeysRun line closing text (key ∷ keys) from came to = (pressed : Result (Unit {0}) Untaken) × (mid : AttachedStation)
      × KeyComes key from pressed mid × MatchResult (pressed_outcome pressed)
      (λ next. KeysRun line (closing_of_both closing next) (text ++ pressed_text line pressed) keys mid came to)
      (λ why. (to ≡ mid) × (came ≡ line_result (Err why) (text ++ pressed_text line pressed)))

  -- such a station, and how many records are ahead
  abbrev pub StationAndAhead : Type 0
  StationAndAhead = AttachedStation × ℕ

  -- this came of records, one after another, and before each it wasn't yet met
  abbrev pub HasWaited : (at.Station → ℕ → Type 0) → StationAndAhead → List (Option PlaceAndReason) → StationAndAhead
      → Type 0
  HasWaited Met' from [] to = to ≡ from
  HasWaited Met' from (refused ∷ more) to = (mid : AttachedStation) × (Met' from.0.end from.1 → ⊥)
      × HearsRecord from.0 refused mid × HasWaited Met' (mid, ahead_after from.1 refused) more to

-- Waits, at a watch that tells of a source whether the read that failed was late; and lines.
module _ {S K : Type 0} (at : LiveStation) (on : WatchedDevices S K) where
  -- the station that waits
  abbrev pub WatchedStation : Type 0
  WatchedStation = AttachedStation at on.devices

  -- the same, and how many records are ahead
  abbrev pub WatchedAndAhead : Type 0
  WatchedAndAhead = WatchedStation × ℕ

  -- no record more came: the host closed, a read failed, for want of time or otherwise, a byte was refused, or a write
  -- failed
  abbrev pub HearsNone : WatchedStation → Waited → WatchedStation → Type 0
  HearsNone from Met to = ⊥
  HearsNone from WasLate to =
      IsHearFault at.behaviour on.devices from to fault.Read × on.tells.is_late to.source true
  HearsNone from HasEnded to = HasHeard at.behaviour on.devices from to None
  HearsNone from (Failed why) to = IsHearFault at.behaviour on.devices from to why
      × (why ≡ fault.Read → on.tells.is_late to.source false)

  -- a wait: up to the first record after which it was met, or one that never came; no wait takes more than the most
  -- records
  abbrev pub WaitsFor : (at.Station → ℕ → Type 0) → WatchedAndAhead → List (Option PlaceAndReason) → Waited
      → WatchedAndAhead → Type 0
  WaitsFor Met' from records waited to =
      (HasWaited at on.devices Met' from records to × Met' to.0.end to.1 × (waited ≡ Met))
      ⊎ (((mid : WatchedAndAhead) × HasWaited at on.devices Met' from records mid
      × (Met' mid.0.end mid.1 → ⊥) × HearsNone mid.0 waited to.0 × (to.1 ≡ mid.1))
      ⊎ (HasWaited at on.devices Met' from records to × (length records ≡ most_reads)
      × (waited ≡ Failed fault.Read)))

  -- what is awaited: it is met by the station, or is over and may rest
  abbrev pub IsWaited : Awaited → WatchedAndAhead → List (Option PlaceAndReason) → Waited → WatchedAndAhead → Type 0
  IsWaited awaited from records waited to = (ended : Waited) × (rests : Bool)
      × WaitsFor (IsMet at awaited) from records ended to × Rests on.tells awaited to.0.source rests
      × (waited ≡ rested rests ended)

  -- A line that shows something of a station: the records that have come are taken first, those that are carried out are
  -- ahead then, and of those that are refused it is told; after its text stands what there was after them, if not only
  -- that no more has come.
  pub record ShowsStation (IsText : at.Station → List ℕ → Type 0) (from : WatchedAndAhead)
      (came : LineResult) (to : WatchedAndAhead) : Type 0 where
    pub records : List (Option PlaceAndReason)
    pub ended : Waited
    pub taken : WaitsFor (λ station ahead. ⊥) from records ended to
    pub shown : List ℕ
    pub is : IsText to.0.end shown
    pub closes : came.outcome ≡ waited_outcome (none_refused records) (rested true ended)
    pub all : came.text ≡ flat_map record_text records ++ shown ++ waited_text (rested true ended)

  -- a line that reports: a note is printed as it is
  abbrev pub Reports : LinesDo StationReport WatchedAndAhead
  Reports (Note note) from came to = (to ≡ from) × (came.outcome ≡ Ok Done) × (came.text ≡ note_line note)
  Reports report from came to =
      ShowsStation (λ station. IsReportText (station_page at station) (at.seen.reported station) report) from came to

  -- What a line at a station comes to, where what it tells is printed so; the keys of a stroke are those at the screen
  -- that the station then has. After a line that waits or presses keys no record is ahead.
  abbrev pub StationRuns : Telling → LinesDo (StationLine at.Pressed) WatchedAndAhead
  StationRuns telling NoLine from came to = (to ≡ from) × (came.outcome ≡ Ok Nothing) × (came.text ≡ [])
  StationRuns telling (Press keys) from came to =
      KeysRun at on.devices telling.line Done [] keys from.0 came to.0 × (to.1 ≡ 0)
  StationRuns telling (Stroke stroke) from came to = (pressed : Result (Unit {0}) Untaken)
      × StrokeComes at on.devices (stroke_keys at.words (station_screen at from.0.end) stroke) from.0 pressed to.0
      × (came.outcome ≡ pressed_outcome pressed) × (came.text ≡ pressed_text telling.line pressed) × (to.1 ≡ 0)
  StationRuns telling (Await awaited) from came to = (records : List (Option PlaceAndReason)) × (waited : Waited)
      × (ahead : ℕ) × IsWaited awaited from records waited (to.0, ahead)
      × (came.outcome ≡ waited_outcome (none_refused records) waited)
      × (came.text ≡ flat_map record_text records ++ waited_text waited) × (to.1 ≡ 0)
  StationRuns telling Fields from came to =
      ShowsStation (λ station. AreFieldLines (station_page at station) (station_screen at station)) from came to
  StationRuns telling Show from came to =
      ShowsStation (λ station. IsDisplayText (look telling.paint (station_page at station)) (station_screen at station)
      (at.operated.behind (at.seen.display station))) from came to
  StationRuns telling (Report report) from came to = Reports report from came to
  StationRuns telling Meanwhile from came to = ShowsStation (λ station text. text ≡ []) from came to
  StationRuns telling (Bad cause) from came to = (to ≡ from) × (came.outcome ≡ bad_outcome)
      × (came.text ≡ bad_text (string_bytes cause))

  -- what lines do at a station where what they tell is printed so, at a watch that keeps its waits so
  abbrev pub StationRunsInTime : {W : Type 0} → WatchTimes W S → Telling
      → LinesDo (StationLine at.Pressed) (LiveSession at.Station S K W)
  StationRunsInTime times telling = InTime (StationRuns telling) station_waits times
