-- What is told of a stream of which records may be refused, where after each refusal the next record is read: by
-- `show --all` its items, its refusals and what its records make; by `show --json` its items and its refusals as objects;
-- by `check --all` the refusals and a count.

use Rattle.std.specs.Prelude.{◌≡◌, ◌≤◌, ℕ, ◌+◌, ◌-◌, ◌^◌, ◌==◌, ◌&&◌, min, List, [], ◌∷◌, ◌++◌, ◌⊎◌, ◌↔◌, Bool, true}
use Rattle.std.specs.Prelude.{false, IsTrue, Option, None, Some, Result, Ok, Err, codes, length, take, if◌then◌else◌}
use Rattle.std.specs.Borrow.{Bor}
use Rattle.std.specs.Fmt.{decimal}
use Rattle.std.specs.List.{flat_map}
use Rattle.ws_code.specs.Code.{Rules}
use Rattle.ws_code.specs.Device.{FailedWithin}
use Rattle.ws_code.specs.declared.fault.Fault.{Fault}
use Rattle.ws_code.specs.declared.fault.Fault.TheVariants.{Memory, Write, Failed}
use Rattle.ws_code.specs.declared.reason.Reason.{Reason}
use Rattle.ws_record.specs.declared.record.Item.{Item}
use Rattle.ws_record.specs.declared.record.Item.TheVariants.{Record as RecordItem, Telnet as TelnetItem}
use Rattle.ws_json.specs.JsonTexts.{json_item, json_refusal, json_truncated}
use Rattle.ws_text.specs.Printed.{Printing}
use Rattle.ws_printing.specs.CheckLine.{line_of}
use Rattle.ws_printing.specs.PlaceAndReason.{place_and_reason}
use Rattle.ws_printing.specs.Printouts.{IsPrintedOut, Printout}
use Rattle.ws_printing.specs.ScreenLines.{on_037}
use Rattle.ws_printing.specs.declared.look.Look.{Look}
use Rattle.ws_printing.specs.declared.paint.Paint.TheVariants.{Plain}
use Rattle.ws_printing.specs.declared.verdict.Verdict.TheVariants.{Accepted, Truncated}
use Rattle.ws_trace.specs.Ends.{AreHeard, EndAt, Tracing, end_begins}
use Rattle.ws_trace.specs.Reading.{IsCountFault, MayEndAt}
use Rattle.ws_trace.specs.declared.told.Told.{Told}
use Rattle.ws_trace.specs.declared.told.Told.TheVariants.{Whole, Refused}
use Rattle.ws_program.specs.StreamText.{View}
use Rattle.ws_program.specs.declared.all_told.AllCounts.{AllCounts}
use Rattle.ws_program.specs.declared.all_told.Way.{Way}
use Rattle.ws_program.specs.declared.all_told.Way.TheVariants.{Lines, Objects, Refusals}
use Rattle.ws_program.specs.declared.words.show_words.ShowForm.{ShowForm}
use Rattle.ws_program.specs.declared.words.show_words.ShowForm.TheVariants as shown

-- an item or a refusal, with the place of its byte
abbrev pub PlacedTold : Type 0 → Type 0
PlacedTold U = ℕ × Told U

-- How a stream is told: the text of an item and that of a refusal, with their places, and why an item isn't carried out
-- after others.
pub record ToldWay (U : Type 0) : Type 0 where
  pub item : ℕ → Item U → List ℕ
  pub refusal : ℕ → Reason → List ℕ
  pub fault : List (Item U) → Item U → Option Reason

-- what stands before a line: a file's name, where one is told, with a colon and a blank
abbrev pub file_head : Option (Bor (List ℕ)) → List ℕ
file_head None = []
file_head (Some name) = name.now ++ codes ": "

-- the line of a refusal after a head
abbrev pub refused_line : List ℕ → ℕ → Reason → List ℕ
refused_line head place reason = head ++ (codes "refused at " ++ place_and_reason place reason)

-- refusals alone, each line after a head: an item has no text, and is carried out
abbrev pub refusals_told : {U : Type 0} → List ℕ → ToldWay U
refusals_told head = record { item = λ _ _. []; refusal = refused_line head; fault = λ _ _. None }

-- How a stream is told in a way: its items as they are shown, and a line for each refusal; the same as objects of JSON,
-- without members of the caller; or its refusals alone.
abbrev pub told_in : {U : Type 0} → Way → (List U → List ℕ) → View U → ToldWay U
told_in Lines body view = record { item = view.lines; refusal = refused_line []; fault = view.fault }
told_in Objects body view = record { item = json_item [] body; refusal = json_refusal []; fault = view.fault }
told_in (Refusals head) body view = refusals_told (file_head head.0)

-- what items make then
abbrev pub makes_by : {U Made : Type 0} → Way → (List (Item U) → Made → Type 0) → List (Item U) → Made → Type 0
makes_by (Refusals head) makes items made = Unit {0}
makes_by way makes items made = makes items made

-- a count of one more, which stays at the highest number that it can hold
abbrev pub one_counted : ℕ → ℕ
one_counted count = min (count + 1) (2 ^ 64 - 1)

module _ {U : Type 0} where
  -- it stands at a place
  abbrev pub told_at : ℕ → Told U → PlacedTold U
  told_at place told = (place, told)

  -- items are carried out on those before them that were
  abbrev pub carrying : ToldWay U → Tracing U (List (Item U))
  carrying way = record { first = []; fault = way.fault; after = λ items item. items ++ item ∷ [] }

  -- the text of what is told at a place
  abbrev pub placed_text : ToldWay U → PlacedTold U → List ℕ
  placed_text way (place, Whole item) = way.item place item
  placed_text way (place, Refused reason) = way.refusal place reason

  -- the texts of all that is told, one after another
  abbrev pub lines_told : ToldWay U → List (PlacedTold U) → List ℕ
  lines_told way told = flat_map (placed_text way) told

  -- the counts with what is told more
  abbrev pub counts_with : AllCounts → Told U → AllCounts
  counts_with counts (Whole (RecordItem r)) = record counts { records = one_counted counts.records }
  counts_with counts (Whole (TelnetItem t)) = record counts { commands = one_counted counts.commands }
  counts_with counts (Refused reason) = record counts { refused = one_counted counts.refused }

  abbrev pub counts_after : AllCounts → List (PlacedTold U) → AllCounts
  counts_after counts [] = counts
  counts_after counts (x ∷ told) = counts_after (counts_with counts x.1) told

  -- how many records and commands are whole, and how often something is refused
  abbrev pub counts_of : List (PlacedTold U) → AllCounts
  counts_of told = counts_after (record { records = 0; commands = 0; refused = 0 }) told

-- How a stream's end is told: by the items that were carried out, by the counts, by whether it may end there, and by
-- how many bytes it has.
abbrev pub AllEnding : Type 0 → Type 1
AllEnding U = List (Item U) → AllCounts → Bool → ℕ → List ℕ → Type 0

-- the line of a stream that ends too early
abbrev pub early_line : Bool → ℕ → List ℕ
early_line true size = []
early_line false size = line_of (Truncated size) size

-- the object of a stream that ends too early
abbrev pub early_object : Bool → ℕ → List ℕ
early_object true size = []
early_object false size = json_truncated [] size

-- what the items make is shown, and that the stream ends too early
abbrev pub IsShownEnd : {U : Type 0} → (List (Item U) → List ℕ → Type 0) → AllEnding U
IsShownEnd Ends items counts is_whole size text = (end : List ℕ) × Ends items end
    × (text ≡ end ++ early_line is_whole size)

-- as objects, that it ends too early alone
abbrev pub IsObjectsEnd : {U : Type 0} → AllEnding U
IsObjectsEnd items counts is_whole size text = text ≡ early_object is_whole size

-- the last line of a check that goes on after refusals; where nothing is refused, it is that of one that doesn't
abbrev pub checked_line : AllCounts → Bool → ℕ → List ℕ
checked_line counts false size = line_of (Truncated size) size
checked_line counts true size = if counts.refused == 0 then line_of (Accepted counts.records counts.commands) size
    else (decimal counts.records ++ codes " records, " ++ decimal counts.commands ++ codes " commands, "
    ++ decimal size ++ codes " bytes, " ++ decimal counts.refused ++ codes " refused\n")

abbrev pub IsCheckedEnd : {U : Type 0} → List ℕ → AllEnding U
IsCheckedEnd head items counts is_whole size text = text ≡ head ++ checked_line counts is_whole size

-- no more of these bytes are read: a growth was refused, or they are more than can be counted
abbrev pub IsStopFault : List ℕ → Fault → Type 0
IsStopFault bytes fault = IsCountFault (2 ^ 64 - 2 ≤ length bytes) fault

module _ {Place U : Type 0} (rules : Rules Place U) (way : ToldWay U) where
  -- the lines of what these bytes tell, one after another
  pub record AreToldLines (bytes : List ℕ) (text : List ℕ) : Type 0 where
    pub told : List (PlacedTold U)
    pub next : EndAt U (List (Item U))
    pub heard : AreHeard rules (carrying way) told_at (end_begins (carrying way)) bytes told next
    pub lines : text ≡ lines_told way told

  -- the lines of what the first bytes tell
  abbrev pub AreFirstTold : List ℕ → List ℕ → Type 0
  AreFirstTold bytes text = (count : ℕ) × AreToldLines (take count bytes) text

  -- the whole text that is told of a stream, with how it ends
  pub record IsAllTold (Ends : AllEnding U) (bytes : List ℕ) (accepted : Bool) (text : List ℕ) : Type 0 where
    pub front : List ℕ
    pub first : AreToldLines bytes front
    pub is_whole : Bool
    pub may_end : IsTrue is_whole ↔ MayEndAt rules first.next.standing
    pub end : List ℕ
    pub ends : Ends first.next.state (counts_of first.told) is_whole (length bytes) end
    pub lines : text ≡ front ++ end
    pub accept : accepted ≡ (is_whole && (counts_of first.told).refused == 0)

  -- how what is told ends: with the whole text; or with the lines of the first bytes, after which no more are read
  abbrev pub IsAllEnd : AllEnding U → List ℕ → List ℕ → Result Bool Fault → Type 0
  IsAllEnd Ends bytes text (Ok accepted) = IsAllTold Ends bytes accepted text
  IsAllEnd Ends bytes text (Err fault) = IsStopFault bytes fault × AreFirstTold bytes text

  -- what is told of a stream; a sink may fail within the lines of the first bytes, or within the whole text
  abbrev pub all_printing : AllEnding U → List ℕ → Printing Bool Fault
  all_printing Ends bytes = record {
    Ends = IsAllEnd Ends bytes;
    Cut = λ text fault. (fault ≡ Write) × (AreFirstTold bytes text
        ⊎ ((accepted : Bool) × IsAllTold Ends bytes accepted text));
  }

  module _ {S : Type 0} (out : Printout S) (bytes : List ℕ) where
    -- what all the bytes tell was printed, and this is counted and made of it
    pub record HasToldAll (counts : AllCounts) (is_whole : Bool) (IsMade : List (Item U) → Type 0) : Type 0 where
      pub text : List ℕ
      pub first : AreToldLines bytes text
      pub printed : IsPrintedOut out text
      pub counted : counts ≡ counts_of first.told
      pub may_end : IsTrue is_whole ↔ MayEndAt rules first.next.standing
      pub made : IsMade first.next.state

    -- it wasn't all printed: no more bytes are read, or the sink failed
    abbrev pub IsUntold : Fault → Type 0
    IsUntold fault = (text : List ℕ) × AreFirstTold bytes text × ((IsStopFault bytes fault × IsPrintedOut out text)
        ⊎ ((fault ≡ Write) × FailedWithin out.writer out.from out.to text))

-- what is told of a stream whose items are shown, as lines in a look or as objects
abbrev pub show_all_printing : {Place U : Type 0} → Rules Place U → (List U → List ℕ) → (Look → View U) → ShowForm
    → List ℕ → Printing Bool Fault
show_all_printing rules body view (shown.Lines look) bytes =
    all_printing rules (told_in Lines body (view look)) (IsShownEnd (view look).Ends) bytes
show_all_printing rules body view shown.Objects bytes =
    all_printing rules (told_in Objects body (view (on_037 Plain))) IsObjectsEnd bytes

-- what is told of a stream that is checked, each line after a head
abbrev pub check_all_printing : {Place U : Type 0} → Rules Place U → List ℕ → List ℕ → Printing Bool Fault
check_all_printing rules head bytes = all_printing rules (refusals_told head) (IsCheckedEnd head) bytes
