-- A station that reads a source to its end and answers into a sink

use Rattle.std.specs.Prelude.{◌≡◌, ℕ, ◌-◌, ◌^◌, ◌≤◌, ◌<◌, min, List, [], ◌∷◌, ◌++◌, ◌⊎◌, Some, Result, Ok, Err, length}
use Rattle.ws_code.specs.declared.fault.Fault.{Fault}
use Rattle.ws_code.specs.declared.fault.Fault.TheVariants.{Refused, Truncated, Read, Write}
use Rattle.ws_code.specs.declared.reason.Reason.{Reason}
use Rattle.ws_code.specs.Device.{Writer, Reader, Devices, WentOut, FailedWithin, Gave, GaveAll, ReadFault, most_reads}
use Rattle.ws_nego.specs.declared.terminal.TerminalType.{TerminalType}
use Rattle.ws_record.specs.declared.record.Item.{Item}
use Rattle.ws_record.specs.Encode.{plain_spelling}
use Rattle.ws_record.specs.Grammar.{Holds, IsInGrammar}
use Rattle.ws_record.specs.Refusal.{IsRefused, IsTruncated}
use Rattle.ws_stream.specs.AnswerParts.{answer_rules}
use Rattle.ws_stream.specs.Elements.{element_rules}
use Rattle.ws_stream.specs.declared.element.Element.{Element}
use Rattle.ws_keys.specs.declared.key.Key.{Key}
use Rattle.ws_end.specs.declared.attached.run.Played.{Played}
use Rattle.ws_stream.specs.declared.answer_part.AnswerPart.{AnswerPart}
use Rattle.ws_end.specs.declared.end_step.Applied.{Applied}
use Rattle.ws_end.specs.Acts.{AllTaken, Doing, doing, HoldsItems}
use Rattle.ws_end.specs.EndTransitions.{station_transitions}
use Rattle.ws_end.specs.station.Moments.{moments, refused_keys}
use Rattle.ws_end.specs.station.StationReached.{StationParts, StationReached}
use Rattle.ws_end.specs.Reaction.{Refuses}
use Rattle.ws_end.specs.station.StationEndState.{StationEndState, new_station_end, station_takes, on_profile}
use Rattle.ws_end.specs.driver.Driven.{Completes}
use Rattle.ws_end.specs.station.Stations.{station_driving}

-- the count of refused keys stops at the greatest number of 32 bits
abbrev pub refusal_count : ℕ → ℕ
refusal_count n = min n (2 ^ 32 - 1)

-- the reads of a source: what it gave first, and what it gave in the last of them
pub record LastRead {R : Type 0} (reader : Reader R) (source source' : R) : Type 0 where
  pub first : List ℕ
  pub last : List ℕ
  pub reads : ℕ
  pub before : R
  pub room : ℕ
  pub gave : Gave reader source before reads first
  pub one_left : reads < most_reads
  pub gave_last : reader.gives before room (Some last) source'
  pub uncounted : reader.failures source' ≡ reader.failures source

-- what a run is given: its terminal, and the keys to be pressed, each after so many records
pub record Schedule : Type 0 where
  pub terminal : TerminalType
  pub keys : List (ℕ × Key)

-- this terminal, and these keys
abbrev pub schedule : TerminalType → List (ℕ × Key) → Schedule
schedule terminal keys = record { terminal = terminal; keys = keys }

-- a sink, by what it may take, as it was and as it is
pub record Outflow (S : Type 0) : Type 1 where
  pub writer : Writer S
  pub from : S
  pub to : S

-- such a sink was this, and is that
abbrev pub outflow : {S : Type 0} → Writer S → S → S → Outflow S
outflow writer from to = record { writer = writer; from = from; to = to }

-- a sink and a source, by what they may do, as they were and as they are
pub record Passage (S R : Type 0) : Type 1 where
  pub devices : Devices R S
  pub sink : S
  pub sink' : S
  pub source : R
  pub source' : R

-- such a sink and source were these, and are those
abbrev pub passing : {S R : Type 0} → Devices R S → S → S → R → R → Passage S R
passing devices sink sink' source source' =
    record { devices = devices; sink = sink; sink' = sink'; source = source; source' = source' }

module _ (run : Schedule) where
  -- what a new station has done after these items and the keys that were due
  abbrev pub behind : List (Item Element) → Doing StationEndState AnswerPart Applied
  behind items = doing station_transitions (new_station_end run.terminal) (moments run.keys items)

  -- how many of the keys it has refused
  abbrev pub refused_behind : List (Item Element) → ℕ
  refused_behind items = refused_keys (new_station_end run.terminal) (moments run.keys items)

  -- what a new station has written after these items and the keys that were due
  abbrev pub run_text : List (Item Element) → List ℕ
  run_text items = plain_spelling answer_rules (behind items).written

  -- no item of these is refused, where the keys are pressed that are due
  abbrev pub AreTakenAll : List (Item Element) → Type 0
  AreTakenAll items = AllTaken station_transitions (new_station_end run.terminal) (moments run.keys items)

  -- the bytes hold these items, none of them is refused, and the station is one after them and the keys that were due
  pub record IsBehind (bytes : List ℕ) (items : List (Item Element)) (station : StationParts) : Type 0 where
    pub reached : StationReached station bytes items (behind items).state
    pub taken : AreTakenAll items

  module _ {S : Type 0} (out : Outflow S) where
    -- what is to be written after these items went out
    abbrev pub HasWrittenAll : List (Item Element) → Type 0
    HasWrittenAll items = WentOut out.writer out.from out.to (run_text items)

    -- A byte of these is refused, and not one of the first so many; all that was to be written before it went out. The
    -- station stood after a prefix of the bytes before it, and no item is complete with the others.
    pub record RunRefuses (first : ℕ) (bytes : List ℕ) (at : ℕ × Reason) : Type 0 where
      pub before : List ℕ
      pub prefix : List ℕ
      pub byte : ℕ
      pub after : List ℕ
      pub split : bytes ≡ (before ++ prefix) ++ byte ∷ after
      pub at_place : at.0 ≡ length (before ++ prefix)
      pub prompt : first ≤ at.0
      pub items : List (Item Element)
      pub station : StationParts
      pub is_behind : IsBehind before items station
      pub inside : HoldsItems element_rules (before ++ prefix) items
      pub why : IsRefused element_rules ((before ++ prefix) ++ byte ∷ []) at.0 at.1
          ⊎ Completes (station_driving on_profile) ((before ++ prefix) ++ byte ∷ []) items
          (λ item. station_takes (behind items).state item ≡ Refuses at.1)
      pub wrote : HasWrittenAll items

    -- A write failed, in what was to be written after items of these bytes.
    pub record RunUnwritten (bytes : List ℕ) : Type 0 where
      pub before : List ℕ
      pub after : List ℕ
      pub split : bytes ≡ before ++ after
      pub items : List (Item Element)
      pub so_far : List ℕ
      pub begun : List ℕ
      pub holds : Holds element_rules before items so_far begun
      pub taken : AreTakenAll items
      pub failed : FailedWithin out.writer out.from out.to (run_text items)

    -- why a run stops within these bytes
    abbrev pub IsRunFault : ℕ → List ℕ → Fault → Type 0
    IsRunFault first bytes (Refused place reason) = RunRefuses first bytes (place, reason)
    IsRunFault first bytes Write = RunUnwritten bytes
    IsRunFault first bytes fault = ⊥

  module _ {S R : Type 0} (line : Passage S R) where
    -- the sink of the line
    abbrev pub sink_of : Outflow S
    sink_of = outflow line.devices.writer line.sink line.sink'

    -- the source gave its end, and the station took all
    pub record IsPlayed (played : Played) : Type 0 where
      pub bytes : List ℕ
      pub items : List (Item Element)
      pub gave : GaveAll line.devices.reader line.source line.source' bytes
      pub accepted : IsInGrammar element_rules bytes items
      pub is_behind : IsBehind bytes items played.station
      pub refused : played.keys_refused ≡ refusal_count (refused_behind items)
      pub wrote : HasWrittenAll sink_of items

    -- the source gave its end inside a token or a record
    pub record IsRunTruncated (n : ℕ) : Type 0 where
      pub bytes : List ℕ
      pub items : List (Item Element)
      pub station : StationParts
      pub gave : GaveAll line.devices.reader line.source line.source' bytes
      pub at_end : n ≡ length bytes
      pub truncated : IsTruncated element_rules bytes
      pub is_behind : IsBehind bytes items station
      pub wrote : HasWrittenAll sink_of items

    -- a read of the source failed, or there were too many
    pub record IsRunUnread : Type 0 where
      pub bytes : List ℕ
      pub items : List (Item Element)
      pub station : StationParts
      pub failed : ReadFault line.devices.reader line.source line.source' bytes
      pub is_behind : IsBehind bytes items station
      pub wrote : HasWrittenAll sink_of items

    -- a write failed
    pub record IsRunUnwritten : Type 0 where
      pub bytes : List ℕ
      pub reads : ℕ
      pub gave : Gave line.devices.reader line.source line.source' reads bytes
      pub unwritten : RunUnwritten sink_of bytes

    -- what a run comes to: played, refused at a byte of the last read, truncated, a failed read or a failed write, each
    -- with what was read and what went out
    abbrev pub IsRun : Result Played Fault → Type 0
    IsRun (Ok played) = IsPlayed played
    IsRun (Err (Refused place reason)) =
        (read : LastRead line.devices.reader line.source line.source')
        × RunRefuses sink_of (length read.first) (read.first ++ read.last) (place, reason)
    IsRun (Err (Truncated n)) = IsRunTruncated n
    IsRun (Err Read) = IsRunUnread
    IsRun (Err Write) = IsRunUnwritten
    IsRun (Err fault) = ⊥
