-- The dialogue of both ends: what their streams tell, in the order in which the pieces came that end it.

use Rattle.std.specs.Prelude.{◌≡◌, ◌-◌, ◌<◌, ◌^◌, ◌↔◌, ℕ, List, IsTrue, length}
use Rattle.ws_code.specs.Code.{Rules}
use Rattle.ws_extended.specs.ExtendedAnswers.{extended_answer_rules}
use Rattle.ws_extended.specs.ExtendedElements.{extended_rules}
use Rattle.ws_extended.specs.ExtendedStates.{ExtendedState}
use Rattle.ws_extended.specs.declared.extended_answer_part.ExtendedAnswerPart.{ExtendedAnswerPart}
use Rattle.ws_extended.specs.declared.extended_element.ExtendedElement.{ExtendedElement}
use Rattle.ws_trace.specs.BothEnds.{host_end, station_end}
use Rattle.ws_trace.specs.Ends.{EndAt, AreHeard, AreSteps, end_begins, entry_at}
use Rattle.ws_trace.specs.Reading.{MayEndAt}
use Rattle.ws_trace.specs.TraceText.{sent_by_end}
use Rattle.ws_trace.specs.declared.entry.EndTold.TheVariants as told_of
use Rattle.ws_trace.specs.declared.dialogue.Dialogue.{Dialogue}
use Rattle.ws_trace.specs.declared.dialogue.EndCount.{EndCount}
use Rattle.ws_trace.specs.declared.entry.Entry.{Entry}
use Rattle.ws_trace.specs.declared.piece.Piece.{Piece}
use Rattle.ws_trace.specs.declared.piece.TracedEnd.{TracedEnd}
use Rattle.ws_trace.specs.declared.piece.TracedEnd.TheVariants.{Host, Station}

-- how many bytes an end sent, and whether its stream may end with them
abbrev pub IsEndCount : {Place U State : Type 0} → Rules Place U → EndAt U State → EndCount → Type 0
IsEndCount rules at count = (count.bytes ≡ at.taken) × (IsTrue count.is_whole ↔ MayEndAt rules at.standing)

-- where both streams are
pub record BothAt : Type 0 where
  pub host : EndAt ExtendedElement ExtendedState
  pub station : EndAt ExtendedAnswerPart (Unit {0})

-- before the first byte of either
abbrev pub both_begin : BothAt
both_begin = record { host = end_begins host_end; station = end_begins station_end }

-- bytes of an end came at a time: the entries of these, and where both streams are then
abbrev pub IsHeardOf : TracedEnd → ℕ → List ℕ → BothAt → List Entry → BothAt → Type 0
IsHeardOf Host time bytes at entries next = AreHeard extended_rules host_end (entry_at told_of.Host time) at.host bytes
    entries next.host × (next.station ≡ at.station)
IsHeardOf Station time bytes at entries next = AreHeard extended_answer_rules station_end
    (entry_at told_of.Station time) at.station bytes entries next.station × (next.host ≡ at.host)

-- a piece came: its entries, and where both streams are then
abbrev pub IsHeardPiece : BothAt → Piece → List Entry → BothAt → Type 0
IsHeardPiece at piece entries next =
    IsHeardOf piece.sender piece.milliseconds piece.bytes.items at entries next

-- pieces came one after another: the entries of all, and where both streams are then
abbrev pub AreAllHeard : BothAt → List Piece → List Entry → BothAt → Type 0
AreAllHeard = AreSteps IsHeardPiece

-- an end sent more bytes than can be counted
abbrev pub IsTooLong : List Piece → Type 0
IsTooLong pieces = (end : TracedEnd) × (2 ^ 64 - 2 < length (sent_by_end end pieces))

-- the dialogue of the pieces
pub record IsDialogue (pieces : List Piece) (dialogue : Dialogue) : Type 0 where
  pub at : BothAt
  pub heard : AreAllHeard both_begin pieces dialogue.entries.items at
  pub host : IsEndCount extended_rules at.host dialogue.host
  pub station : IsEndCount extended_answer_rules at.station dialogue.station
