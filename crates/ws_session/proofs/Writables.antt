-- What an end answers to an item that can be written can be written.

use Rattle.ws_session.proofs.Common as C
use C.{AllByRecursion, ◌≡◌, List, [], ◌∷◌, refl, ◌∙◌, ℕ, Option, Some, None, ap, sym, arith, inl, inr, if◌then◌else◌}
use C.{Bool, true, false, map, Reason, RecordBeforeNegotiation, IsTelnet, Telnet, HostState, Answer}
use C.{station_allows_records, station_answer, IsInRange, Opcode, CancelInvite, NoOperation, PutGet, Item, RecordItem}
use C.{TelnetItem, answer_rules, element_rules, AnswerPart, Element, body_fault, ReadKind, HostAnswer, Refuses, GoesOn}
use C.{Rules, Reaction, HostEndState, host_negotiates, host_reads, host_reads_by, host_ends_cancel, host_takes_record}
use C.{host_takes, HostOutput, StationEndState, opcode_answer, station_applies, station_takes, AreWritable}
use Rattle.std.proofs.lemmas.Bool.{cases_Bool}
use Rattle.ws_nego.proofs.Replies.{reply_in_range, Ranges, host_reply_in_range}

abbrev written_of : {E W : Type 0} → W → Reaction E W → W
written_of none (Refuses reason) = none
written_of none (GoesOn end written) = written

tokens_writable : {Place U : Type 0} (rules : Rules Place U) (ts : List Telnet) → AllByRecursion IsTelnet ts
    → AreWritable rules (map TelnetItem ts)
tokens_writable rules [] a = (tt, tt)
tokens_writable rules (t ∷ ts) a = let rest = tokens_writable rules ts a.1 in ((tt, rest.0), (a.0, rest.1))

opcode_writable : (o : Opcode) → AreWritable answer_rules (opcode_answer o)
opcode_writable CancelInvite = (((record { chain = tt; ends = refl }, omega arith), tt), (omega arith, tt))
opcode_writable o = (tt, tt)

-- what the station answers to an item that can be written can be written
pub answers_writable : (state : StationEndState) (item : Item Element) (next : StationEndState)
    (writes : List (Item AnswerPart)) → IsInRange item → station_takes state item ≡ GoesOn next writes
    → AreWritable answer_rules writes
answers_writable state (TelnetItem token) next writes range e =
    let same : map TelnetItem (station_answer state.options token).reply ≡ writes = ap (written_of []) e in
    rw (← same) (tokens_writable answer_rules (station_answer state.options token).reply
    (reply_in_range state.options token range))
answers_writable state (RecordItem r) next writes range e = elim (cases_Bool (station_allows_records state.options))
    [ inl a ↦ by_fault _ refl (rw a at e) | inr a ↦ (let never = rw a at e in cc) ] where
      by_fault : (o : Option Reason) → body_fault state.happened r.body ≡ o → station_applies state r
          (body_fault state.happened r.body) ≡ GoesOn next writes → AreWritable answer_rules writes
      by_fault None f a =
          let same : opcode_answer r.opcode ≡ writes = ap (written_of []) (sym (ap (station_applies state r) f) ∙ a) in
          rw (← same) (opcode_writable r.opcode)
      by_fault (Some reason) f a =
          let never : Refuses reason ≡ GoesOn next writes = sym (ap (station_applies state r) f) ∙ a in cc

-- what a reaction writes can be written
abbrev pub WritesWell : Reaction HostEndState HostOutput → Type 0
WritesWell (Refuses reason) = Unit {0}
WritesWell (GoesOn end end_events) = AreWritable element_rules end_events.items

record_writes : (h : HostEndState) (flags : ℕ) (o : Opcode) (parts : List AnswerPart)
    → WritesWell (host_takes_record h flags o parts)
record_writes h flags PutGet parts = by_kind _ where
  by_answer : (o : Option HostAnswer) → WritesWell (host_reads h o)
  by_answer None = tt
  by_answer (Some answer) = (tt, tt)

  by_kind : (o : Option ReadKind) → WritesWell (host_reads_by h o parts)
  by_kind None = tt
  by_kind (Some kind) = by_answer _
record_writes h flags CancelInvite [] = by_test _ where
  by_test : (b : Bool) → WritesWell (host_ends_cancel h b)
  by_test true = (tt, tt)
  by_test false = tt
record_writes h flags NoOperation [] = (tt, tt)
record_writes h flags o parts = tt

pub host_writes_well : (h : HostEndState) (item : Item AnswerPart) → IsInRange item → WritesWell (host_takes h item)
host_writes_well h (TelnetItem token) range = by_answer _ (host_reply_in_range h.options token range) where
  by_answer : (o : Option (Answer HostState)) → Ranges o → WritesWell (host_negotiates h o)
  by_answer None a = tt
  by_answer (Some answer) a = tokens_writable element_rules _ a
host_writes_well h (RecordItem r) range = by_test _ where
  by_test : (b : Bool) → WritesWell
      (if b then host_takes_record h r.flags r.opcode r.body else Refuses RecordBeforeNegotiation)
  by_test true = record_writes h r.flags _ _
  by_test false = tt
