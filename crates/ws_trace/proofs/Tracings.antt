use Rattle.std.specs.Prelude.{if◌then◌else◌}
use Rattle.ws_code.proofs.Lists.{AllByRecursion-append, AllByRecursion-last}
use Rattle.ws_telnet.specs.Streams.{command_of}
use Rattle.ws_telnet.specs.declared.token.Telnet.{Telnet}
use Rattle.ws_trace.proofs.Common.{RecordItem, TelnetItem, Record, ◌≡◌, ℕ, ◌+◌, List, [], ◌∷◌, ◌++◌, inl, inr, Option}
use Rattle.ws_trace.proofs.Common.{None, Some, map, refl, sym, ap, ◌∙◌, append_assoc, flat_map, AllByRecursion}
use Rattle.ws_trace.proofs.Common.{append-nil, Rules, Reason, Token, Data, Eor, TelnetToken, Holds, IsStretch, commands}
use Rattle.ws_trace.proofs.Common.{Item, Tracing, EndAt, IsWholeItem, told_with, Reads, Passes, ReaderParts, IsNextOf}
use Rattle.ws_trace.proofs.Common.{◌≤◌, Bool, true, false, arith, length, length-append, Fault}
use Rattle.ws_trace.proofs.Common.{TracerParts, IsAdded, IsWholeCame, Tracks, Whole, Refused, AreSteps, made_of}
use Rattle.ws_trace.specs.Ends.{AreHeard, IsHeard, carry_fault}
use Rattle.ws_trace.specs.Readers.{bytes_read}
use Rattle.ws_trace.specs.Reading.{IsCountFault, StreamStanding, IsNextByte, after_passed, ends_record, told_of_passed}
use Rattle.ws_trace.specs.declared.told.Told.{Told}

-- The records that bytes hold have whole bodies.

module _ {Place U : Type 0} where
  telnets_whole : (rules : Rules Place U) (ts : List Telnet) → AllByRecursion (IsWholeItem rules) (map TelnetItem ts)
  telnets_whole rules [] = tt
  telnets_whole rules (t ∷ ts) = (tt, telnets_whole rules ts)

  stretches_whole : (rules : Rules Place U) (ss : List (List Token × Record U)) → AllByRecursion (IsStretch rules) ss
      → AllByRecursion (IsWholeItem rules) (flat_map (λ s. commands s.0 ++ RecordItem s.1 ∷ []) ss)
  stretches_whole rules [] h = tt
  stretches_whole rules (s ∷ ss) h =
      AllByRecursion-append (IsWholeItem rules) (commands s.0 ++ RecordItem s.1 ∷ []) _
      (AllByRecursion-append (IsWholeItem rules) (commands s.0) (RecordItem s.1 ∷ [])
      (telnets_whole rules (flat_map command_of s.0)) (h.0.is_record.body.chain, tt))
      (stretches_whole rules ss h.1)

  pub last_whole : (rules : Rules Place U) (bytes : List ℕ) (items : List (Item U)) (item : Item U)
      → (so_far begun : List ℕ) × Holds rules bytes (items ++ item ∷ []) so_far begun → IsWholeItem rules item
  last_whole rules bytes items item h =
      AllByRecursion-last (IsWholeItem rules) items item
      (rw h.2.are_items (AllByRecursion-append (IsWholeItem rules) _ (commands h.2.rest)
      (stretches_whole rules h.2.stretches h.2.each)
      (telnets_whole rules (flat_map command_of h.2.rest))))

  passed_whole : (rules : Rules Place U) (token : Token) → IsWholeCame rules (told_of_passed token)
  passed_whole rules (Data b) = tt
  passed_whole rules Eor = tt
  passed_whole rules (TelnetToken t) = tt

  pub came_whole : (rules : Rules Place U) (at : StreamStanding U) (byte : ℕ) (came : Option (Told U))
      (next : StreamStanding U) → IsNextByte rules at byte came next → IsWholeCame rules came
  came_whole rules (Reads bytes items) byte None next h = tt
  came_whole rules (Reads bytes items) byte (Some (Whole item)) next h =
      last_whole rules (bytes ++ byte ∷ []) items item h.1.0
  came_whole rules (Reads bytes items) byte (Some (Refused reason)) next h = tt
  came_whole rules (Passes begun) byte came next (inl h) = rw h.0 tt
  came_whole rules (Passes begun) byte came next (inr (inl h)) = rw h.1 (passed_whole rules h.0)
  came_whole rules (Passes begun) byte came next (inr (inr h)) = rw h.0 tt

-- A byte is one more, at most, since records are read.

none_read : (U : Type 0) (is_over : Bool) → bytes_read {U = U} (if is_over then Reads [] [] else Passes []) ≡ []
none_read U true = refl
none_read U false = refl

none_passed : (U : Type 0) (token : Token) → bytes_read {U = U} (after_passed token) ≡ []
none_passed U (Data b) = refl
none_passed U Eor = refl
none_passed U (TelnetToken t) = refl

one_read : {Place U : Type 0} (rules : Rules Place U) (at : StreamStanding U) (byte : ℕ) (came : Option (Told U))
    (next : StreamStanding U) → IsNextByte rules at byte came next
    → length (bytes_read next) ≤ length (bytes_read at) + 1
one_read rules (Reads bytes items) byte None next h = rw h.0 (omega (arith, length-append bytes (byte ∷ [])))
one_read rules (Reads bytes items) byte (Some (Whole item)) next h =
    rw h.0 (omega (arith, length-append bytes (byte ∷ [])))
one_read {Place} {U} rules (Reads bytes items) byte (Some (Refused reason)) next h =
    rw (h.0, none_read U (ends_record reason)) (omega arith)
one_read rules (Passes begun) byte came next (inl h) = rw h.1 (omega arith)
one_read {Place} {U} rules (Passes begun) byte came next (inr (inl h)) = rw (h.2, none_passed U h.0) (omega arith)
one_read rules (Passes begun) byte came next (inr (inr h)) = rw h.1 (omega arith)

-- bytes were taken, and no more of them than these are read
abbrev pub AreCounted : {U State : Type 0} → EndAt U State → EndAt U State → List ℕ → Type 0
AreCounted at next bytes = (next.taken ≡ at.taken + length bytes)
    × (length (bytes_read next.standing) ≤ length (bytes_read at.standing) + length bytes)

-- Steps one after another.

module _ {At X T : Type 0} (IsStep : At → X → List T → At → Type 0) where
  pub one_step : (at : At) (x : X) (entries : List T) (next : At) → IsStep at x entries next
      → AreSteps IsStep at (x ∷ []) entries next
  one_step at x entries next s = (next, entries, [], s, (refl, refl), sym (append-nil entries))

  pub steps_both : (at mid next : At) (xs ys : List X) (entries more : List T) → AreSteps IsStep at xs entries mid
      → AreSteps IsStep mid ys more next → AreSteps IsStep at (xs ++ ys) (entries ++ more) next
  steps_both at mid next [] ys entries more h k = rw (h.0, ← h.1) k
  steps_both at mid next (x ∷ xs) ys entries more h k = (
    h.0,
    h.1,
    h.2 ++ more,
    h.3,
    steps_both h.0 mid next xs ys h.2 more h.4 k,
    ap (λ z. z ++ more) h.5 ∙ append_assoc h.1 h.2 more,
  )

-- What bytes add.

module _ {Place U State T : Type 0} (rules : Rules Place U) (end : Tracing U State) (put : ℕ → Told U → T) where
  -- what is told of a byte
  abbrev pub EntriesOf : EndAt U State → Option (Told U) → List T
  EntriesOf at came = map (put at.taken) (told_with came (carry_fault end at.state came))

  -- they are counted
  pub heard_count : (at next : EndAt U State) (bytes : List ℕ) (entries : List T)
      → AreHeard rules end put at bytes entries next → AreCounted at next bytes
  heard_count at next [] entries h = rw h.1 (omega arith, omega arith)
  heard_count at next (byte ∷ bytes) entries h =
      let more = heard_count h.0 next bytes h.2 h.4 in (
        omega (arith, h.3.1.counted, more.0),
        omega (arith, one_read rules at.standing byte h.3.0 h.0.standing h.3.1.read, more.1),
      )

  -- what bytes add after others
  pub added_more : {at : EndAt U State} {bytes : List ℕ} {before mid after : List T} {byte : ℕ}
      {IsThere IsNext : EndAt U State → Type 0} → (a : IsAdded rules end put at bytes before mid IsThere)
      → IsAdded rules end put a.next (byte ∷ []) mid after IsNext
      → IsAdded rules end put at (bytes ++ byte ∷ []) before after IsNext
  added_more {at} {bytes} {before} {mid} {after} {byte} a b = record {
    next = b.next;
    added = a.added ++ b.added;
    heard = steps_both (IsHeard rules end put) at a.next b.next bytes (byte ∷ []) a.added b.added a.heard b.heard;
    there = b.there;
    entries = b.entries ∙ ap (λ z. z ++ b.added) a.entries ∙ append_assoc before a.added b.added;
  }

  -- none adds nothing
  pub added_none : (at : EndAt U State) (entries : List T) (IsThere : EndAt U State → Type 0) → IsThere at
      → IsAdded rules end put at [] entries entries IsThere
  added_none at entries IsThere there = record {
    next = at;
    added = [];
    heard = (refl, refl);
    there = there;
    entries = sym (append-nil entries);
  }

  -- what is told of a byte that a tracer takes there
  pub entries_there : (old : ℕ) (at : EndAt U State) (came : Option (Told U)) (refused : Option Reason)
      (before : List T) → old ≡ at.taken → refused ≡ carry_fault end at.state came
      → before ++ map (put old) (told_with came refused) ≡ before ++ EntriesOf at came
  entries_there old at came refused before counted why =
      ap (λ n. before ++ map (put n) (told_with came refused)) counted
      ∙ ap (λ (o : Option Reason). before ++ map (put at.taken) (told_with came o)) why

  -- one that a reader has taken
  module _ {Made : Type 0} (is_made : State → Made → Type 0) where
    pub added_one : (old : TracerParts Place U Made) (reader : ReaderParts Place U) (made : Made) (at : EndAt U State)
        (byte : ℕ) (came : Option (Told U)) (before after : List T)
        → Tracks rules is_made old at → IsNextOf rules old.reader reader byte came
        → ((state : State) → is_made state old.made → is_made (made_of end state came) made)
        → after ≡ before ++ EntriesOf at came → (taken : ℕ)
        → taken ≡ old.taken + 1 → IsAdded rules end put at (byte ∷ []) before after
        (Tracks rules is_made (record { reader = reader; made = made; taken = taken }))
    added_one old reader made at byte came before after t on makes is taken one =
        let stood = on at.standing t.stands in
        let next : EndAt U State = record {
          standing = stood.0;
          state = made_of end at.state came;
          taken = at.taken + 1;
        } in record {
          next = next;
          added = EntriesOf at came;
          heard = one_step (IsHeard rules end put) at byte (EntriesOf at came) next
              (came, record { read = stood.1; made = refl; counted = refl }, refl);
          there = record { stands = stood.2; made = makes at.state t.made; counted = one ∙ ap (λ n. n + 1) t.counted };
          entries = is;
        }

-- what a fault says, it says of what follows from that
pub fault_weaker : {P Q : Type 0} {fault : Fault} → (P → Q) → IsCountFault P fault → IsCountFault Q fault
fault_weaker f (inl memory) = inl memory
fault_weaker f (inr failed) = inr (failed.0, f failed.1)
