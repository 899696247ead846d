-- What a station that no record ends keeps, where it stands, and what bytes and keys make of it

use Rattle.std.specs.Prelude.{◌≡◌, ℕ, ◌+◌, ◌^◌, ◌<◌, ◌≤◌, ◌⊎◌, List, [], ◌∷◌, Option, Some, None, Result, Ok, Err, IfErr, OnOk, OnErr, IsSome, MatchResult, true, length}
use Rattle.ws_code.specs.declared.code.Push.{Push}
use Rattle.ws_code.specs.declared.code.Push.TheVariants.{Unit as Whole}
use Rattle.ws_telnet.specs.declared.token.Telnet.{Telnet}
use Rattle.ws_telnet.specs.declared.token.Token.{Token}
use Rattle.ws_telnet.specs.declared.token.Token.TheVariants.{Data, Eor, Telnet as TelnetToken}
use Rattle.ws_nego.specs.Options.{telnet_bytes}
use Rattle.ws_nego.specs.Station.{StationState, station_answer}
use Rattle.ws_identity.specs.Environ.{EnvironState}
use Rattle.ws_record.specs.declared.opcode.Opcode.TheVariants.{NoOperation}
use Rattle.ws_screen.specs.declared.read_kind.ReadKind.{ReadKind}
use Rattle.ws_keys.specs.Contents.{answer_bytes}
use Rattle.ws_keys.specs.declared.answer.Answer.{Answer}
use Rattle.ws_keys.specs.declared.answer.Answer.TheVariants.{Read, Attention, SystemRequest}
use Rattle.ws_end.specs.Acts.{as_list}
use Rattle.ws_end.specs.Ends.{IsShut}
use Rattle.ws_end.specs.declared.end_step.EndStep.{EndStep}
use Rattle.ws_end.specs.declared.station.answer.TheConstants.{ATN, SRQ}
use Rattle.ws_end.specs.declared.station.key_fault.KeyFault.{KeyFault}
use Rattle.ws_end.specs.declared.refusal.Refusal.{Refusal}
use Rattle.ws_end.specs.declared.refusal.Refusal.TheVariants.{At, Failed}
use Rattle.ws_end.specs.station.Displays.{OnDisplay, RefusesKey, Silent, Answers, Signals}
use Rattle.ws_end.specs.station.StationTransitions.{key_on}
use Rattle.ws_end.specs.station.Stations.{ItemsOf, ReachedOn, PartsOn, EndStateOf, StationOf}
use Rattle.ws_lasting.specs.Counting.{IsCounted}
use Rattle.ws_lasting.specs.Identity.{environ_after, reply_to}
use Rattle.ws_lasting.specs.Lasting.{FootingOn, IsAtByte, IsAtWord, IsFatal, IsFatalWord}
use Rattle.ws_lasting.specs.Negative.{is_of_record}
use Rattle.ws_lasting.specs.Records.{IsSpoilt}
use Rattle.ws_lasting.specs.declared.lasting_reply.LastingReply.{LastingReply}
use Rattle.ws_lasting.specs.declared.lasting_reply.LastingReply.TheVariants.{Station, Environ}
use Rattle.ws_lasting.specs.declared.record_counts.RecordCounts.{RecordCounts}
use Rattle.ws_lasting.specs.declared.record_event.RecordEvent.{RecordEvent}
use Rattle.ws_lasting.specs.declared.record_event.RecordEvent.TheVariants.{CarriedOut, Refused}
use Rattle.ws_lasting.specs.declared.record_event.RefusedRecord.{RefusedRecord}

-- What such a station keeps: a station, the bytes of the token that has begun, how many bytes the open record has, why
-- it is refused if it is passed over and at which byte of the session, what the session has come to, at which byte of it
-- the last record was refused that was told as refused, how many bytes it has taken, why it takes no more, NEW-ENVIRON if
-- it has an identity, and the bytes that this answered last.
pub record LastingParts (D P : Type 0) : Type 0 where
  pub station : PartsOn D P
  pub begun : List ℕ
  pub size : ℕ
  pub passing : Option RefusedRecord
  pub passing_from : ℕ
  pub counts : RecordCounts
  pub refused_at : Option ℕ
  pub taken : ℕ
  pub ended : Option Refusal
  pub environ : Option EnvironState
  pub environ_reply : List ℕ

-- at which byte the last record was refused that was told as refused, where a record is that is refused at this one
abbrev pub told_place : ℕ → Option RecordEvent → Option ℕ → Option ℕ
told_place place (Some (Refused why)) last = Some place
told_place place other last = last

-- The byte of the session at which the open record is refused, if it is: that from which on it was passed over before,
-- or one of those taken from here on. It stays while the record is passed over, and is shown once this is told.
abbrev pub IsRefusalPlaced : {D P : Type 0} → LastingParts D P → ℕ → LastingParts D P → Option RecordEvent → Type 0
IsRefusalPlaced old here new told = (place : ℕ) × (IsSome old.passing → place ≡ old.passing_from)
    × (old.passing ≡ None → IsSome new.passing ⊎ IsSome told → (here ≤ place) × (place < new.taken))
    × (IsSome new.passing → new.passing_from ≡ place)
    × (IsSome old.passing → told ≡ None → new.passing ≡ old.passing)
    × (new.refused_at ≡ told_place place told old.refused_at)

-- what the last byte taken gives it
abbrev pub LastingStep : Type 0 → Type 0
LastingStep R = EndStep RecordEvent (LastingReply R)

-- where a record is refused at the bytes taken from here on, by what they give; a byte that ends the session tells none
abbrev pub IsRefusalPlacedSo : {D P R : Type 0} → LastingParts D P → ℕ → LastingParts D P
    → Result (LastingStep R) Refusal → Type 0
IsRefusalPlacedSo old here new result =
    MatchResult result (λ step. IsRefusalPlaced old here new step.event) (λ why. new.refused_at ≡ old.refused_at)

-- it has ended for this reason, and all but the bytes that came is as before: what reacts, the counts, the identity
abbrev pub IsEndedFor : {D P : Type 0} → LastingParts D P → LastingParts D P → Refusal → Type 0
IsEndedFor old new why = (old.ended ≡ None → new.ended ≡ Some why) × (new.station.reacts ≡ old.station.reacts)
    × (new ≡ record old { station = new.station; begun = new.begun; taken = new.taken; ended = new.ended })

-- one that is shut stays as it is, and has ended if it had only taken as many bytes as can be counted
abbrev pub StaysShut : {D P : Type 0} → LastingParts D P → LastingParts D P → Type 0
StaysShut old new = (new ≡ record old { ended = new.ended }) × (old.ended ≡ None → new.ended ≡ Some Failed)

module _ (on : OnDisplay) where
  abbrev pub LastingOf : Type 0
  LastingOf = LastingParts on.Parts on.Place

  -- the bytes of what it has just written
  abbrev pub bytes_written : LastingOf → LastingReply on.Replied → List ℕ
  bytes_written lasting (Station reply) = on.does.written lasting.station.reacts.screen reply
  bytes_written lasting Environ = lasting.environ_reply

  -- the station reads: these bytes of an open record have come to it
  pub record IsReading (station : StationOf on) (taken : ℕ) (at : FootingOn on) : Type 0 where
    pub bytes : List ℕ
    pub items : ItemsOf on
    pub reached : ReachedOn on station bytes items at.state
    pub is_open : reached.so_far.bytes ≡ at.so_far
    pub is_begun : station.live.begun ≡ at.begun
    pub few : length bytes ≤ taken

  -- it passes over a record that has these bytes, and stands itself as a new one
  pub record IsPassingOver (station : StationOf on) (at : FootingOn on) (why : RefusedRecord) : Type 0 where
    pub reached : ReachedOn on station [] [] at.state
    pub of_record : is_of_record why.reason ≡ true
    pub spoilt : IsSpoilt on.rules at.so_far why

  abbrev pub ReadsOrPasses : LastingOf → FootingOn on → Option RefusedRecord → Type 0
  ReadsOrPasses lasting at None = IsReading lasting.station lasting.taken at × (lasting.size ≡ length at.so_far)
  ReadsOrPasses lasting at (Some why) = IsPassingOver lasting.station at why

  -- The station stands there.
  pub record StandsAt (lasting : LastingOf) (at : FootingOn on) : Type 0 where
    pub works : lasting.ended ≡ None
    pub is_begun : lasting.begun ≡ at.begun
    pub is_environ : lasting.environ ≡ at.environ
    pub within : ReadsOrPasses lasting at lasting.passing

  -- this holds of wherever the station stands
  abbrev pub AtLasting : LastingOf → (FootingOn on → Type 0) → Type 0
  AtLasting lasting Holds = (at : FootingOn on) → StandsAt lasting at → Holds at

  -- what comes of a byte: what it makes of a station, or why it ends the session
  abbrev pub IsByteTaken : LastingOf → LastingOf → FootingOn on → ℕ
      → Result (LastingStep on.Replied) Refusal → Type 0
  IsByteTaken old new at byte (Ok step) = (next : FootingOn on)
      × IsAtByte on at byte next (bytes_written new step.reply) (as_list step.event)
      × StandsAt new next × IsCounted old.counts (as_list step.event) new.counts
  IsByteTaken old new at byte (Err (At place reason)) = (place ≡ old.taken) × IsFatal on at byte reason
      × (new.taken ≡ old.taken + 1)
  IsByteTaken old new at byte (Err why) = ⊥

  -- what a byte gives
  pub record TakesByte (old : LastingOf) (byte : ℕ) (new : LastingOf)
      (result : Result (LastingStep on.Replied) Refusal) : Type 0 where
    pub taken : AtLasting old (λ at. old.taken + 1 < 2 ^ 64 → IsByteTaken old new at byte result)
    pub placed : IsRefusalPlacedSo old old.taken new result
    pub counted : OnOk result (new.taken ≡ old.taken + 1)
    pub after : OnErr result (IsSome new.ended)
    pub left : IfErr result (λ why. IsEndedFor old new why)
    pub shut : IsShut old.ended old.taken → StaysShut old new
    pub full : old.taken + 1 ≡ 2 ^ 64 → result ≡ Err Failed
    pub failed : IsSome old.ended → result ≡ Err Failed

  -- the reply of what a byte gives, or why it ends the session
  abbrev pub replied_by : Result (LastingStep on.Replied) Refusal → Result (LastingReply on.Replied) Refusal
  replied_by (Ok step) = Ok step.reply
  replied_by (Err why) = Err why

  -- a byte gives this reply, or is refused so
  abbrev pub IsPushedSo : LastingOf → ℕ → LastingOf → Result (LastingReply on.Replied) Refusal → Type 0
  IsPushedSo old byte new result = (gave : Result (LastingStep on.Replied) Refusal)
      × TakesByte old byte new gave × (result ≡ replied_by gave)

  -- what comes of the last byte taken, by what it makes of tokens
  abbrev pub IsWordHeard : RecordCounts → LastingOf → FootingOn on → ℕ → Push Token
      → Result (LastingStep on.Replied) Refusal → Type 0
  IsWordHeard counts new at here word (Ok step) = (next : FootingOn on)
      × IsAtWord on at word next (bytes_written new step.reply) (as_list step.event)
      × StandsAt new next × IsCounted counts (as_list step.event) new.counts
  IsWordHeard counts new at here word (Err (At place reason)) = (place ≡ here) × IsFatalWord on at word reason
  IsWordHeard counts new at here word (Err why) = ⊥

  -- what is written at a Telnet command at which the station on the display gives this reply
  pub record IsReplied (old new : LastingOf) (token : Telnet) (reply : on.Replied) (result : LastingReply on.Replied)
      : Type 0 where
    pub same : new ≡ record old { environ = environ_after old.environ token; environ_reply = new.environ_reply }
    pub written : (options : StationState)
        → on.does.written old.station.reacts.screen reply ≡ telnet_bytes (station_answer options token).reply
        → bytes_written new result ≡ telnet_bytes (reply_to options old.environ token)

  -- what becomes of a station that reads, where the last byte isn't refused, at which the station on the display gives
  -- this reply; and what it gives
  abbrev pub IsFollowed : LastingOf → LastingOf → Push Token → on.Replied → LastingStep on.Replied → Type 0
  IsFollowed old new (Whole (Data b)) reply step = (new ≡ record old { size = old.size + 1 })
      × (step ≡ record { reply = Station reply; event = None })
  IsFollowed old new (Whole Eor) reply step = (counts : RecordCounts)
      × (new ≡ record old { size = 0; passing = None; counts = counts })
      × IsCounted old.counts (CarriedOut ∷ []) counts
      × (step ≡ record { reply = Station reply; event = Some CarriedOut })
  IsFollowed old new (Whole (TelnetToken t)) reply step = IsReplied old new t reply step.reply × (step.event ≡ None)
  IsFollowed old new other reply step = (new ≡ old) × (step ≡ record { reply = Station reply; event = None })

  -- what a key gives: its refusal, with the station as it was; or what it sends
  abbrev pub IsKeyHeard : LastingOf → LastingOf → FootingOn on → on.Pressed → Result (Option Answer) KeyFault → Type 0
  IsKeyHeard old new at key (Err fault) = (key_on on.does at.state key ≡ RefusesKey fault) × (new ≡ old)
  IsKeyHeard old new at key (Ok None) = (next : EndStateOf on) × (key_on on.does at.state key ≡ Silent next)
      × StandsAt new (record at { state = next })
  IsKeyHeard old new at key (Ok (Some (Read body))) = (next : EndStateOf on) × (kind : ReadKind) × (aid : ℕ)
      × (key_on on.does at.state key ≡ Answers next kind aid)
      × (body ≡ answer_bytes kind (on.does.shows at.state.happened) aid) × StandsAt new (record at { state = next })
  IsKeyHeard old new at key (Ok (Some Attention)) =
      (key_on on.does at.state key ≡ Signals NoOperation ATN) × StandsAt new at
  IsKeyHeard old new at key (Ok (Some SystemRequest)) =
      (key_on on.does at.state key ≡ Signals NoOperation SRQ) × StandsAt new at
