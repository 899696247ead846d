-- What calls come to, as C sees it

use Rattle.std.specs.Prelude.{◌≡◌, ℕ, ◌+◌, ◌^◌, ◌<◌, ◌/◌, ◌%◌, false, List, [], ◌∷◌, ◌++◌, length, drop}
use Rattle.std.specs.Prelude.{Bool}
use Rattle.std.specs.Prelude.{Option, Some, None, IsSome, Result, Ok, Err, OnErr, if◌then◌else◌}
use Rattle.std.specs.Str.{encode_utf8_all}
use Rattle.ws_code.specs.Reason.{number_of as reason_number}
use Rattle.ws_code.specs.declared.reason.Reason.{Reason}
use Rattle.ws_nego.specs.Station.{station_allows_records}
use Rattle.ws_code.specs.declared.code_page.CodePage.{CodePage}
use Rattle.ws_screen.specs.Lines.{row_chars}
use Rattle.ws_screen.specs.ScreenParts.{ScreenParts, holds}
use Rattle.ws_screen.specs.declared.field.Field.{Field}
use Rattle.ws_screen.specs.declared.read_kind.ReadKind.{ReadKind}
use Rattle.ws_screen.specs.declared.read_kind.ReadKind.TheVariants.{Input, Mdt, MdtAlternate}
use Rattle.ws_end.specs.station.AnswerSpelling.{answer_spelling}
use Rattle.ws_end.specs.Ends.{refused_byte}
use Rattle.ws_end.specs.station.StationReached.{StationParts}
use Rattle.ws_end.specs.station.Stations.{IsKeyedOn}
use Rattle.ws_end.specs.declared.station.key_fault.KeyFault.{KeyFault}
use Rattle.ws_end.specs.declared.station.key_fault.KeyFault.TheVariants.{Failed as KeyFailed, NotReady as KeyNotReady}
use Rattle.ws_end.specs.declared.station.key_fault.KeyFault.TheVariants.{Key as Refuses}
use Rattle.ws_keys.specs.declared.answer.Answer.{Answer}
use Rattle.ws_c.specs.Keys.{refusal_number}
use Rattle.ws_c.specs.Pages.{row_chars_on}
use Rattle.ws_c.specs.declared.field_told.FieldTold.{FieldTold}
use Rattle.ws_c.specs.declared.state_told.StateTold.{StateTold}
use Rattle.ws_c.specs.declared.state_told.TheConstants.{NO_FIELD}
use Rattle.ws_c.specs.declared.status.Status.{Status}
use Rattle.ws_c.specs.declared.status.Status.TheVariants.{Done, Refused, Failed, NoMemory, NothingHeld, InUse, NoRoom}
use Rattle.ws_c.specs.declared.status.Status.TheVariants.{BadArgument, NotReady, KeyRefused, Truncated}
use Rattle.ws_c.specs.declared.status.Status.TheVariants.{ReadOutstanding, NoReadToCancel, TooBig, NoAnswer}
use Rattle.ws_c.specs.declared.told.Told.{Told}
use Rattle.ws_end.specs.station.Displays.{OnDisplay}
use Rattle.ws_end.specs.station.Stations.{StationOf, ItemsOf, EndStateOf, ReachedOn}

-- the number of a status
abbrev pub status_number : Status → ℕ
status_number Done = 0
status_number Refused = 1
status_number Failed = 2
status_number NoMemory = 3
status_number NothingHeld = 4
status_number InUse = 5
status_number NoRoom = 6
status_number BadArgument = 7
status_number NotReady = 8
status_number KeyRefused = 9
status_number Truncated = 10
status_number ReadOutstanding = 11
status_number NoReadToCancel = 12
status_number TooBig = 13
status_number NoAnswer = 14

-- a call gives C the number of a status, of which this is said
abbrev pub HasStatus : ℕ → (Status → Type 0) → Type 0
HasStatus number says = (status : Status) × (number ≡ status_number status) × says status

-- a buffer at whose front these bytes were put
abbrev pub holds_front : List ℕ → List ℕ → List ℕ
holds_front bytes buffer = bytes ++ drop (length bytes) buffer

-- what a call tells that put so many bytes, and nothing else
abbrev pub told_length : ℕ → Told
told_length n = record { length = n; place = 0; reason = 0 }

-- what a call gives beside its buffer: its status, and what is told
pub record Returned (T : Type 0) : Type 0 where
  pub status : Status
  pub told : T

-- what a call gives that has this status and tells this
abbrev pub returned : {T : Type 0} → Status → T → Returned T
returned status told = record { status = status; told = told }

-- What crosses to C at a call: what the buffer held before it, and what it holds after it, the status, and what is told
-- beside that.
pub record Crossed (T : Type 0) : Type 0 where
  pub buffer : List ℕ
  pub after : List ℕ
  pub status : Status
  pub told : T

-- what crosses where the buffer held this and holds that, with this status, and this is told
abbrev pub crossed : {T : Type 0} → List ℕ → List ℕ → Status → T → Crossed T
crossed buffer after status told = record { buffer = buffer; after = after; status = status; told = told }

-- the call has this status and tells this, and the buffer stays as it was
abbrev pub TellsOnly : {T : Type 0} → Crossed T → Status → T → Type 0
TellsOnly call status told = (call.status ≡ status) × (call.told ≡ told) × (call.after ≡ call.buffer)

-- the call puts these bytes at the buffer's front, tells how many they are, and is done
abbrev pub GivesBytes : Crossed Told → List ℕ → Type 0
GivesBytes call bytes = (call.status ≡ Done) × (call.told ≡ told_length (length bytes))
    × (call.after ≡ holds_front bytes call.buffer)

-- a station of any kind at a key
pub record StationKeyedOn (kind : OnDisplay) (old new : StationOf kind) (key : kind.Pressed)
    (result : Result (Option Answer) KeyFault) : Type 0 where
  pub keyed : (bytes : List ℕ) (items : ItemsOf kind) (side : EndStateOf kind)
      → ReachedOn kind old bytes items side → length bytes + 1 < 2 ^ 64
      → IsKeyedOn kind old new bytes items side key result
  pub full : old.live.taken + 1 ≡ 2 ^ 64 → result ≡ Err KeyFailed
  pub failed : IsSome old.ended → result ≡ Err KeyFailed
  pub same : OnErr result (new ≡ old)

-- what a key's fault crosses as
abbrev pub IsKeyFaultTold : KeyFault → Status → Told → Type 0
IsKeyFaultTold KeyFailed status told = (status ≡ Failed) × (told ≡ told_length 0)
IsKeyFaultTold KeyNotReady status told = (status ≡ NotReady) × (told ≡ told_length 0)
IsKeyFaultTold (Refuses refusal) status told = (status ≡ KeyRefused)
    × (told ≡ record { length = 0; place = 0; reason = refusal_number refusal })

-- what a key crosses as
abbrev pub IsKeyTold : Result (Option Answer) KeyFault → Crossed Told → Type 0
IsKeyTold (Ok None) call = TellsOnly call Done (told_length 0)
IsKeyTold (Ok (Some answer)) call = GivesBytes call (answer_spelling answer)
IsKeyTold (Err fault) call = IsKeyFaultTold fault call.status call.told × (call.after ≡ call.buffer)

-- the number of a pending read; 0 where there is none
abbrev pub read_number : Option ReadKind → ℕ
read_number None = 0
read_number (Some Input) = 1
read_number (Some Mdt) = 2
read_number (Some MdtAlternate) = 3

-- the index of the field that holds a cell, where the first of these has the given one; where none does, FFFF
abbrev pub index_from : ℕ → List Field → ℕ → ℕ
index_from i [] c = NO_FIELD
index_from i (f ∷ fs) c = if holds f c then i else index_from (i + 1) fs c

-- the index of the field that holds a cell; where none does, FFFF
abbrev pub field_index : List Field → ℕ → ℕ
field_index fields c = index_from 0 fields c

-- the place of the byte that a station has refused, and the number of the reason; 0 where it has refused none
abbrev pub place_refused : Option (ℕ × Reason) → ℕ
place_refused None = 0
place_refused (Some refused) = refused.0

-- the number of the reason of a refused byte, and 0 for none
abbrev pub reason_refused : Option (ℕ × Reason) → ℕ
reason_refused None = 0
reason_refused (Some refused) = reason_number refused.1

-- the number of a row, and 0 for none
abbrev pub row_number : Option ℕ → ℕ
row_number None = 0
row_number (Some row) = row

-- what is told beside the screen: the records that were carried out, the alarms that sounded, a refused byte, whether
-- records are allowed, and the row of an error, 0 for none
pub record BesideScreen : Type 0 where
  pub records : ℕ
  pub alarms : ℕ
  pub refused : Option (ℕ × Reason)
  pub is_ready : Bool
  pub error_row : ℕ

-- what is told beside the screen, by its parts
abbrev pub beside_screen : ℕ → ℕ → Option (ℕ × Reason) → Bool → ℕ → BesideScreen
beside_screen records alarms refused is_ready error_row = record {
  records = records;
  alarms = alarms;
  refused = refused;
  is_ready = is_ready;
  error_row = error_row;
}

-- what is told of a screen, and beside it
abbrev pub state_of_screen : ScreenParts → BesideScreen → StateTold
state_of_screen screen beside = record {
  records = beside.records;
  refused_place = place_refused beside.refused;
  alarms = beside.alarms;
  refused_records = 0;
  record_place = 0;
  names_refused = 0;
  field_count = length screen.fields;
  cursor_field = field_index screen.fields screen.cursor;
  cursor_row = screen.cursor / 80 + 1;
  cursor_column = screen.cursor % 80 + 1;
  pending_read = read_number screen.pending;
  refused_reason = reason_refused beside.refused;
  is_ready = beside.is_ready;
  is_locked = screen.locked;
  is_message_lit = screen.message;
  is_blinking = screen.blink;
  error_row = beside.error_row;
  record_reason = 0;
  is_full = false;
}

-- what is told of a station but for its cells and fields
abbrev pub state_told : StationParts → StateTold
state_told s = state_of_screen s.reacts.screen.screen
    (beside_screen s.reacts.records s.reacts.screen.alarms (refused_byte s.ended)
    (station_allows_records s.reacts.options) 0)

-- what is told of a station where there is none
abbrev pub no_state : StateTold
no_state = record {
  records = 0;
  refused_place = 0;
  alarms = 0;
  refused_records = 0;
  record_place = 0;
  names_refused = 0;
  field_count = 0;
  cursor_field = 0;
  cursor_row = 0;
  cursor_column = 0;
  pending_read = 0;
  refused_reason = 0;
  is_ready = false;
  is_locked = false;
  is_message_lit = false;
  is_blinking = false;
  error_row = 0;
  record_reason = 0;
  is_full = false;
}

-- what a row shows, in UTF-8, on a page if there is one
abbrev pub row_text : Option CodePage → ScreenParts → ℕ → List ℕ
row_text None screen row = encode_utf8_all (row_chars screen.cells row)
row_text (Some page) screen row = encode_utf8_all (row_chars_on page screen.cells row)

-- what is told of a field: its start, its length and its format word
abbrev pub field_told : Field → FieldTold
field_told f = record { row = f.start / 80 + 1; column = f.start % 80 + 1; length = f.length; format = f.format }

-- what is told of a field where there is none
abbrev pub no_field : FieldTold
no_field = record { row = 0; column = 0; length = 0; format = 0 }

-- what is told of a field, where there is one
abbrev pub IsFieldTold : Option Field → Status → FieldTold → Type 0
IsFieldTold None status told = (status ≡ BadArgument) × (told ≡ no_field)
IsFieldTold (Some field) status told = (status ≡ Done) × (told ≡ field_told field)
