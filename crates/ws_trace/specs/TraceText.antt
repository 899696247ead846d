-- Entries of a dialogue as lines, after the time and the sender, or after the sender alone; and a line for each end.

use Rattle.std.specs.Prelude.{ℕ, ◌-◌, ◌/◌, ◌%◌, ◌==◌, ◌&&◌, List, [], ◌∷◌, ◌++◌, Bool, true, false, codes}
use Rattle.std.specs.Prelude.{length, take, drop, filter, flat_map, if◌then◌else◌}
use Rattle.std.specs.Fmt.{decimal}
use Rattle.ws_code.specs.Reason.{text_of}
use Rattle.ws_code.specs.declared.reason.Reason.{Reason}
use Rattle.ws_record.specs.declared.record.Item.{Item}
use Rattle.ws_record.specs.declared.record.Item.TheVariants.{Record as RecordItem}
use Rattle.ws_text.specs.ItemLines.{hex_behind_blank}
use Rattle.ws_printing.specs.PlaceAndReason.{place_and_reason}
use Rattle.ws_trace.specs.declared.dialogue.Dialogue.{Dialogue}
use Rattle.ws_trace.specs.declared.dialogue.EndCount.{EndCount}
use Rattle.ws_trace.specs.declared.entry.EndTold.{EndTold}
use Rattle.ws_trace.specs.declared.entry.EndTold.TheVariants as told_of
use Rattle.ws_trace.specs.declared.entry.Entry.{Entry}
use Rattle.ws_trace.specs.declared.piece.Piece.{Piece}
use Rattle.ws_trace.specs.declared.piece.TracedEnd.{TracedEnd}
use Rattle.ws_trace.specs.declared.piece.TracedEnd.TheVariants.{Host, Station}
use Rattle.ws_trace.specs.declared.told.Told.{Told}
use Rattle.ws_trace.specs.declared.told.Told.TheVariants.{Whole, Refused}
use Rattle.ws_trace.specs.declared.trace_text.Heads.{Heads}
use Rattle.ws_trace.specs.declared.trace_text.Heads.TheVariants.{Timed, Untimed}

-- an end's name
abbrev pub end_name : TracedEnd → List ℕ
end_name Host = codes "host"
end_name Station = codes "station"

abbrev pub same_end : TracedEnd → TracedEnd → Bool
same_end Host Host = true
same_end Station Station = true
same_end end other = false

-- who sent what is told
abbrev pub sender_of : EndTold → TracedEnd
sender_of (told_of.Host told) = Host
sender_of (told_of.Station told) = Station

-- a piece's bytes where the end sent it, else none
abbrev pub bytes_of_end : TracedEnd → Piece → List ℕ
bytes_of_end end piece = if same_end piece.sender end then piece.bytes.items else []

-- what an end sent: its pieces, one after another
abbrev pub sent_by_end : TracedEnd → List Piece → List ℕ
sent_by_end end pieces = flat_map (bytes_of_end end) pieces

-- when the first piece came
abbrev pub first_time : List Piece → ℕ
first_time [] = 0
first_time (piece ∷ pieces) = piece.milliseconds

-- milliseconds as seconds with three digits after the point
abbrev pub seconds_text : ℕ → List ℕ
seconds_text time = decimal (time / 1000) ++ codes "." ++ decimal (time / 100 % 10) ++ decimal (time / 10 % 10)
    ++ decimal (time % 10)

-- what stands before an item: its time and its sender, or its sender alone
abbrev pub entry_head : Heads → ℕ → TracedEnd → List ℕ
entry_head Timed time end = codes "+" ++ seconds_text time ++ codes " " ++ end_name end ++ codes " "
entry_head Untimed time end = end_name end ++ codes " "

-- eight bytes before a place of a stream, and eight from it on, or as many as there are
abbrev pub eight_before : ℕ → List ℕ → List ℕ
eight_before place stream = let front = take place stream in drop (length front - 8) front

abbrev pub eight_from : ℕ → List ℕ → List ℕ
eight_from place stream = take 8 (drop place stream)

-- the lines of a refusal at a place of a stream: as `check` prints it, what the reason says, and the bytes round it
abbrev pub refusal_lines : ℕ → Reason → List ℕ → List ℕ
refusal_lines place reason stream = codes "refused at " ++ place_and_reason place reason ++ codes "  "
    ++ text_of reason ++ codes "\n  bytes" ++ hex_behind_blank (eight_before place stream)
    ++ hex_behind_blank (eight_from place stream) ++ codes "\n"

-- the lines of what is told at a place of a stream
abbrev pub told_at_text : {U : Type 0} → (ℕ → Item U → List ℕ) → ℕ → Told U → List ℕ → List ℕ
told_at_text lines place (Whole item) stream = lines place item
told_at_text lines place (Refused reason) stream = refusal_lines place reason stream

-- the streams that both ends sent, and when the first piece came
pub record BothSent : Type 0 where
  pub begun : ℕ
  pub host : List ℕ
  pub station : List ℕ

abbrev pub both_sent : List Piece → BothSent
both_sent pieces = record {
  begun = first_time pieces;
  host = sent_by_end Host pieces;
  station = sent_by_end Station pieces;
}

-- a record is whole
abbrev pub is_whole_record : {U : Type 0} → Told U → Bool
is_whole_record (Whole (RecordItem r)) = true
is_whole_record told = false

-- something is refused
abbrev pub is_told_refusal : {U : Type 0} → Told U → Bool
is_told_refusal (Refused reason) = true
is_told_refusal told = false

-- a record of this end is whole
abbrev pub tells_record : TracedEnd → EndTold → Bool
tells_record Host (told_of.Host told) = is_whole_record told
tells_record Station (told_of.Station told) = is_whole_record told
tells_record end told = false

-- something of this end is refused
abbrev pub tells_refusal : TracedEnd → EndTold → Bool
tells_refusal Host (told_of.Host told) = is_told_refusal told
tells_refusal Station (told_of.Station told) = is_told_refusal told
tells_refusal end told = false

-- how many records of an end are whole, and how often something of it is refused
abbrev pub end_records : TracedEnd → List Entry → ℕ
end_records end entries = length (filter (λ e. tells_record end e.told) entries)

abbrev pub end_refusals : TracedEnd → List Entry → ℕ
end_refusals end entries = length (filter (λ e. tells_refusal end e.told) entries)

-- the line of an end
abbrev pub end_line : TracedEnd → EndCount → List Entry → List ℕ
end_line end count entries = end_name end ++ codes ": " ++ decimal count.bytes ++ codes " bytes, "
    ++ decimal (end_records end entries) ++ codes " records, " ++ decimal (end_refusals end entries)
    ++ codes " refused" ++ (if count.is_whole then codes "\n" else codes ", truncated\n")

-- nothing is refused, and no stream ends too early
abbrev pub is_unrefused : Dialogue → Bool
is_unrefused dialogue = dialogue.host.is_whole && dialogue.station.is_whole
    && end_refusals Host dialogue.entries.items == 0 && end_refusals Station dialogue.entries.items == 0
