-- The decoder of a host's stream, as C sees it

use Rattle.std.specs.Prelude.{◌≡◌, ◌≢◌, ℕ, ◌+◌, ◌^◌, ◌<◌, ◌≤◌, Bool, true, false, List, [], ◌∷◌, ◌++◌, length, take}
use Rattle.std.specs.Prelude.{Option, Some, None, is_none, Result, Ok, Err, OnErr, IfErr, OnOk, slice_index}
use Rattle.ws_code.specs.Code.{Rules}
use Rattle.ws_code.specs.Reason.{number_of as reason_number}
use Rattle.ws_code.specs.declared.fault.Fault.{Fault}
use Rattle.ws_code.specs.declared.fault.Fault.TheVariants.{Truncated as IsTruncatedAt, Failed as FaultFailed}
use Rattle.ws_code.specs.DataByte.{IsData}
use Rattle.ws_telnet.specs.Token.{telnet_spelling}
use Rattle.ws_telnet.specs.declared.codes.TheConstants.{IAC}
use Rattle.ws_record.specs.Grammar.{opcode_byte, IsInGrammar}
use Rattle.ws_record.specs.Live.{Watching, Leads, IsLiveStep, OnEnd, stream}
use Rattle.ws_record.specs.OpenRecord.{RecordSoFar, no_record}
use Rattle.ws_record.specs.Refusal.{IsTruncated}
use Rattle.ws_record.specs.declared.record.Item.{Item}
use Rattle.ws_record.specs.declared.live.Step.{Step}
use Rattle.ws_record.specs.declared.live.Step.TheVariants.{More, Open, Unit as Whole, Close, Telnet as Command}
use Rattle.ws_record.specs.declared.live.Step.TheVariants.{Refused as StepRefused, Failed as StepFailed}
use Rattle.ws_stream.specs.declared.place.Place.{Place}
use Rattle.ws_stream.specs.Elements.{element_rules}
use Rattle.ws_stream.specs.declared.element.Element.{Element}
use Rattle.ws_stream.specs.declared.element.Element.TheVariants.{Put}
use Rattle.ws_extended.specs.ExtendedElements.{extended_rules}
use Rattle.ws_extended.specs.declared.extended_element.ExtendedElement.{ExtendedElement}
use Rattle.ws_extended.specs.declared.extended_element.ExtendedElement.TheVariants.{Profile, Text}
use Rattle.ws_extended.specs.declared.extended_place.ExtendedPlace.{ExtendedPlace}
use Rattle.ws_c.specs.declared.machine.Machine.{Machine}
use Rattle.ws_c.specs.declared.machine.Machine.TheVariants.{Decoder, ExtendedDecoder}
use Rattle.ws_c.specs.declared.status.Status.{Status}
use Rattle.ws_c.specs.declared.status.Status.TheVariants.{Done, Refused, Failed, NoMemory, InUse}
use Rattle.ws_c.specs.declared.status.Status.TheVariants.{Truncated}
use Rattle.ws_c.specs.declared.decoder.StepTold.{StepTold}
use Rattle.ws_c.specs.declared.decoder.TheConstants.{UNIT_ROOM}
use Rattle.ws_c.specs.Calls.{Crossed, holds_front}
use Rattle.ws_c.specs.Held.{Boxed}
use Rattle.ws_c.specs.Pushes.{TakesAll}

-- what is told of a step: so many bytes were taken, this kind is complete, and nothing else
abbrev pub plain_step : ℕ → ℕ → StepTold
plain_step taken kind = record {
  taken = taken;
  length = 0;
  cells = 0;
  place = 0;
  kind = kind;
  flags = 0;
  record_length = 0;
  opcode = 0;
  reason = 0;
}

-- after these cells, which stand at the buffer's front, the call has this status and tells this
abbrev pub TellsAfter : List ℕ → Crossed StepTold → Status → StepTold → Type 0
TellsAfter cells call status told = (call.status ≡ status) × (call.told ≡ record told { cells = length cells })
    × (call.after ≡ holds_front cells call.buffer)

-- so many bytes were taken, and with the last something of this kind is complete: the buffer gets its spelling, behind
-- these cells
abbrev pub IsSpellingTold : List ℕ → List ℕ → ℕ → ℕ → Crossed StepTold → Type 0
IsSpellingTold cells spelling taken kind call = (call.status ≡ Done)
    × (call.told ≡ record (plain_step taken kind) { length = length spelling; cells = length cells })
    × (call.after ≡ holds_front (cells ++ spelling) call.buffer)

-- the byte that an element puts into the next cell, where it is such
abbrev pub byte_put : Element → Option ℕ
byte_put (Put byte) = Some byte
byte_put element = None

-- the same of an element of live hosts' streams
abbrev pub extended_byte_put : ExtendedElement → Option ℕ
extended_byte_put (Profile element) = byte_put element
extended_byte_put (Text element) = byte_put element
extended_byte_put element = None

-- what a byte may be behind a cell's: a further one, since no order and no command begins with it
abbrev pub MayBeCell : ℕ → Type 0
MayBeCell byte = IsData byte × (byte ≢ IAC)

-- A run of cells ends before a byte that begins something else, and where a buffer has no room for what may follow.
abbrev pub EndsRun : List ℕ → ℕ → ℕ → Type 0
EndsRun cells byte room = (cells ≢ []) × (MayBeCell byte → length cells + UNIT_ROOM ≤ room → ⊥)

-- what the end of a stream crosses as
abbrev pub IsEndTold : Result (Unit {0}) Fault → Status → ℕ → Type 0
IsEndTold (Ok done) status place = (status ≡ Done) × (place ≡ 0)
IsEndTold (Err (IsTruncatedAt at)) status place = (status ≡ Truncated) × (place ≡ at)
IsEndTold (Err fault) status place = (status ≡ Failed) × (place ≡ 0)

module _ {P U : Type 0} (rules : Rules P U) where
  -- what a new decoder crosses as: it is made, or the handle stays as it is
  abbrev pub IsNewDecoder : (Boxed (Watching P) → Machine) → Option Machine → Option Machine → Status → Type 0
  IsNewDecoder in_handle (Some held) now status = (status ≡ InUse) × (now ≡ Some held)
  IsNewDecoder in_handle None now Done = (decoder : Boxed (Watching P)) × (now ≡ Some (in_handle decoder))
      × Leads rules decoder.value [] [] no_record
  IsNewDecoder in_handle None now NoMemory = now ≡ None
  IsNewDecoder in_handle None now status = ⊥

  -- a decoder at a byte
  pub record DecoderPushedOn (old new : Watching P) (byte : ℕ) (step : Step U) : Type 0 where
    pub pushed : (bytes : List ℕ) (items : List (Item U)) (so_far : RecordSoFar U)
        → Leads rules old bytes items so_far → length bytes + 1 < 2 ^ 64
        → IsLiveStep rules new (stream bytes items so_far) byte step
    pub full : old.taken + 1 ≡ 2 ^ 64 → step ≡ StepFailed
    pub failed : old.failed ≡ true → step ≡ StepFailed
    pub after : OnEnd step (new.failed ≡ true)

  -- what a step crosses as behind these cells, with the number of bytes before its byte: 0 nothing, 1 a header, 2 an
  -- element, 3 a record's end, 4 a Telnet command
  abbrev pub IsStepToldOn : List ℕ → Step U → ℕ → Crossed StepTold → Type 0
  IsStepToldOn cells More before call = TellsAfter cells call Done (plain_step (before + 1) 0)
  IsStepToldOn cells (Open head) before call = TellsAfter cells call Done (record (plain_step (before + 1) 1) {
    flags = head.flags;
    record_length = head.length;
    opcode = opcode_byte head.opcode;
  })
  IsStepToldOn cells (Whole unit) before call = IsSpellingTold cells (rules.spelling unit) (before + 1) 2 call
  IsStepToldOn cells Close before call = TellsAfter cells call Done (plain_step (before + 1) 3)
  IsStepToldOn cells (Command telnet) before call = IsSpellingTold cells (telnet_spelling telnet) (before + 1) 4 call
  IsStepToldOn cells (StepRefused place reason) before call = TellsAfter cells call Refused
      (record (plain_step before 0) { place = place; reason = reason_number reason })
  IsStepToldOn cells StepFailed before call = TellsAfter cells call Failed (plain_step before 0)

  -- whether a decoder's stream may end
  pub record DecoderFinishedOn (old new : Watching P) (result : Result (Unit {0}) Fault) : Type 0 where
    pub ok : OnOk result ((new ≡ old)
        × ((bytes : List ℕ) (items : List (Item U)) (so_far : RecordSoFar U)
        → Leads rules old bytes items so_far → IsInGrammar rules bytes items))
    pub truncated : IfErr result (λ fault. (bytes : List ℕ) (items : List (Item U)) (so_far : RecordSoFar U)
        → Leads rules old bytes items so_far → length bytes + 1 < 2 ^ 64
        → (fault ≡ IsTruncatedAt (length bytes)) × IsTruncated rules bytes)
    pub failed : old.failed ≡ true → result ≡ Err FaultFailed
    pub after : OnErr result (new.failed ≡ true)

  -- the end of a decoder's stream
  abbrev pub IsEndOfOn : Status → ℕ → Watching P → Watching P → Type 0
  IsEndOfOn status place old new = (result : Result (Unit {0}) Fault) × DecoderFinishedOn old new result
      × IsEndTold result status place

module _ {U : Type 0} (put_by : U → Option ℕ) where
  -- what is brought by a step with which nothing but a cell is complete: its byte
  abbrev pub IsTakenBy : Step U → List ℕ → Type 0
  IsTakenBy More brought = brought ≡ []
  IsTakenBy (Whole unit) brought = (byte : ℕ) × (put_by unit ≡ Some byte) × (brought ≡ byte ∷ [])
  IsTakenBy step brought = ⊥

  -- something other than a cell is complete with the step, or its byte is refused
  abbrev pub tells_something : Step U → Bool
  tells_something More = false
  tells_something (Whole unit) = is_none (put_by unit)
  tells_something step = true

module _ {P U : Type 0} (rules : Rules P U) (put_by : U → Option ℕ) where
  -- a decoder takes a byte with which nothing is complete, or an element that puts this one byte into a cell
  abbrev pub DecoderTakesOn : Watching P → ℕ → List ℕ → Watching P → Type 0
  DecoderTakesOn old byte brought new = (step : Step U) × DecoderPushedOn rules old new byte step
      × IsTakenBy put_by step brought

  -- What a push of bytes into a decoder crosses as. A front of them is taken with which nothing is complete but elements
  -- that each put a byte into a cell: these bytes, in order, stand at the buffer's front, a run of cells. It ends there
  -- where they are all, or where the run ends; or else with the byte after them, with which something else is complete,
  -- or which is refused.
  pub record IsDecodeOn (bytes : List ℕ) (call : Crossed StepTold) (old new : Watching P) : Type 0 where
    pub front : ℕ
    pub cells : List ℕ
    pub counted : front ≤ length bytes
    pub before : Watching P
    pub takes : TakesAll DecoderTakesOn old (take front bytes) cells before
    pub all : length bytes ≤ front → TellsAfter cells call Done (plain_step front 0) × (new ≡ before)
    pub run : front < length bytes → EndsRun cells (slice_index bytes front) (length call.buffer)
        → TellsAfter cells call Done (plain_step front 0) × (new ≡ before)
    pub one : front < length bytes → (EndsRun cells (slice_index bytes front) (length call.buffer) → ⊥)
        → (step : Step U) × DecoderPushedOn rules before new (slice_index bytes front) step
        × (tells_something put_by step ≡ true) × IsStepToldOn rules cells step front call

-- what a new decoder of the profile's streams crosses as
abbrev pub IsDecoderNew : Option Machine → Option Machine → Status → Type 0
IsDecoderNew = IsNewDecoder element_rules Decoder

-- what a push of bytes into a decoder of the profile's streams crosses as
abbrev pub IsDecode : List ℕ → Crossed StepTold → Watching Place → Watching Place → Type 0
IsDecode = IsDecodeOn element_rules byte_put

-- what the end of a stream of the profile crosses as
abbrev pub IsStreamEnd : Status → ℕ → Watching Place → Watching Place → Type 0
IsStreamEnd = IsEndOfOn element_rules

-- what a push of bytes into a decoder of live hosts' streams crosses as
abbrev pub IsExtendedDecode : List ℕ → Crossed StepTold → Watching ExtendedPlace → Watching ExtendedPlace → Type 0
IsExtendedDecode = IsDecodeOn extended_rules extended_byte_put

-- what the end of a live host's stream crosses as
abbrev pub IsExtendedStreamEnd : Status → ℕ → Watching ExtendedPlace → Watching ExtendedPlace → Type 0
IsExtendedStreamEnd = IsEndOfOn extended_rules

-- what a new decoder of live hosts' streams crosses as
abbrev pub IsExtendedDecoderNew : Option Machine → Option Machine → Status → Type 0
IsExtendedDecoderNew = IsNewDecoder extended_rules ExtendedDecoder
