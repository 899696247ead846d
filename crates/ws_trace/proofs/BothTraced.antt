use Rattle.std.specs.Prelude.{if◌then◌else◌, ◌-◌}
use Rattle.std.proofs.Common.{take-append-drop}
use Rattle.std.proofs.lemmas.Grind.{flat_map-append}
use Rattle.ws_extended.specs.ExtendedStates.{ExtendedState}
use Rattle.ws_extended.specs.declared.extended_answer_part.ExtendedAnswerPart.{ExtendedAnswerPart}
use Rattle.ws_extended.specs.declared.extended_answer_place.ExtendedAnswerPlace.{ExtendedAnswerPlace}
use Rattle.ws_trace.proofs.Common.{extended_answer_rules, extended_rules, ◌≡◌, List, [], ◌∷◌, ◌++◌, ExtendedParts}
use Rattle.ws_trace.proofs.Common.{Host, Station, sent_by_end, ℕ, ◌+◌, ◌^◌, ◌<◌, ap, sym, ◌∙◌, arith, take, drop}
use Rattle.ws_trace.proofs.Common.{ExtendedElement, ExtendedPlace, EndAt, Tracks, TracerParts, Piece}
use Rattle.ws_trace.proofs.Common.{length, length-append, get_or, entry_at}
use Rattle.ws_trace.specs.BothEnds.{IsMadeDisplay, IsMadeNothing, host_end, station_end}
use Rattle.ws_trace.specs.Dialogues.{AreAllHeard, BothAt, IsHeardOf, IsHeardPiece, IsTooLong, both_begin}
use Rattle.ws_trace.specs.TraceText.{bytes_of_end, same_end}
use Rattle.ws_trace.specs.declared.entry.EndTold.TheVariants as told_of
use Rattle.ws_trace.specs.declared.entry.Entry.{Entry}
use Rattle.ws_trace.specs.declared.piece.TracedEnd.{TracedEnd}
use Rattle.ws_trace.proofs.ExtendedRecords.{rest_at}
use Rattle.ws_trace.proofs.Tracings.{AreCounted, heard_count, one_step, steps_both}

-- Pieces of both ends, one after another.

abbrev pub HostIsAt : TracerParts ExtendedPlace ExtendedElement ExtendedParts → EndAt ExtendedElement ExtendedState
    → Type 0
HostIsAt = Tracks extended_rules IsMadeDisplay

abbrev pub StationIsAt : TracerParts ExtendedAnswerPlace ExtendedAnswerPart (Unit {0})
    → EndAt ExtendedAnswerPart (Unit {0}) → Type 0
StationIsAt = Tracks extended_answer_rules IsMadeNothing

-- these pieces were traced, with these entries
pub record AreTraced (pieces : List Piece) (entries : List Entry)
    (host : TracerParts ExtendedPlace ExtendedElement ExtendedParts)
    (station : TracerParts ExtendedAnswerPlace ExtendedAnswerPart (Unit {0})) : Type 0 where
  pub at : BothAt
  pub heard : AreAllHeard both_begin pieces entries at
  pub host_is : HostIsAt host at.host
  pub station_is : StationIsAt station at.station

-- a piece more
pub traced_more : {pieces : List Piece} {before after : List Entry}
    {host host' : TracerParts ExtendedPlace ExtendedElement ExtendedParts}
    {station station' : TracerParts ExtendedAnswerPlace ExtendedAnswerPart (Unit {0})}
    (t : AreTraced pieces before host station) (piece : Piece) (now : List Entry)
    (next : BothAt) → IsHeardPiece t.at piece now next → after ≡ before ++ now
    → HostIsAt host' next.host → StationIsAt station' next.station
    → AreTraced (pieces ++ piece ∷ []) after host' station'
traced_more {pieces} {before} t piece now next one is host_is station_is = record {
  at = next;
  heard = rw is (steps_both IsHeardPiece both_begin t.at next pieces (piece ∷ []) before now t.heard
      (one_step IsHeardPiece t.at piece now next one));
  host_is = host_is;
  station_is = station_is;
}

-- What is counted.

-- both ends have sent so much more
abbrev AreSent : BothAt → BothAt → List ℕ → List ℕ → Type 0
AreSent at next host station = AreCounted at.host next.host host × AreCounted at.station next.station station

sent_of : (end : TracedEnd) (time : ℕ) (bytes : List ℕ) (at : BothAt) (entries : List Entry) (next : BothAt)
    → IsHeardOf end time bytes at entries next
    → AreSent at next (if same_end end Host then bytes else []) (if same_end end Station then bytes else [])
sent_of Host time bytes at entries next h = (
  heard_count extended_rules host_end (entry_at told_of.Host time) at.host next.host bytes entries h.0,
  rw h.1 (omega arith, omega arith),
)
sent_of Station time bytes at entries next h = (
  rw h.1 (omega arith, omega arith),
  heard_count extended_answer_rules station_end (entry_at told_of.Station time) at.station next.station bytes entries
      h.0,
)

pub all_sent : (at next : BothAt) (pieces : List Piece) (entries : List Entry) → AreAllHeard at pieces entries next
    → AreSent at next (sent_by_end Host pieces) (sent_by_end Station pieces)
all_sent at next [] entries h = rw h.1 ((omega arith, omega arith), (omega arith, omega arith))
all_sent at next (piece ∷ pieces) entries h =
    let one = sent_of piece.sender piece.milliseconds piece.bytes.items at h.1 h.0 h.3 in
    let more = all_sent h.0 next pieces h.2 h.4 in
    let host = length-append (bytes_of_end Host piece) (sent_by_end Host pieces) in
    let station = length-append (bytes_of_end Station piece) (sent_by_end Station pieces) in (
      (omega (arith, one.0.0, more.0.0, host), omega (arith, one.0.1, more.0.1, host)),
      (omega (arith, one.1.0, more.1.0, station), omega (arith, one.1.1, more.1.1, station)),
    )

-- with a piece an end has sent more than can be counted
pub too_long : (end : TracedEnd) (pieces : List Piece) (i : ℕ) (piece : Piece) → i < length pieces
    → piece ≡ get_or pieces i piece
    → 2 ^ 64 - 2 < length (sent_by_end end (take i pieces)) + length (bytes_of_end end piece) → IsTooLong pieces
too_long end pieces i piece inside is over =
    let front = sent_by_end end (take i pieces) in
    let rest = sent_by_end end (drop i pieces) in
    let split = ap (sent_by_end end) (sym (take-append-drop i pieces))
    ∙ flat_map-append (bytes_of_end end) (take i pieces) (drop i pieces) in
    let size = ap length split ∙ length-append front rest in
    let next = ap (λ ps. length (sent_by_end end ps)) (rest_at pieces i piece inside is)
    ∙ length-append (bytes_of_end end piece) (sent_by_end end (drop (i + 1) pieces)) in
    (end, omega (arith, over, size, next))
