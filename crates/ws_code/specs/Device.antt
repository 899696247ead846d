-- Devices. A source gives bytes and a sink takes them, some at each call. A device counts its failures in 64 bits.
--
-- What a device may do at one call is a relation between its states before and after:
-- `gives s room (Some bytes) t` a read into a slice of that length gave these bytes, and `gives s room None t` it
-- failed;
-- `takes s bytes (Some n) t` a write took the first n of the bytes, and `takes s bytes None t` it failed.
-- A device that knows its bytes says by it which they are. Of one that doesn't, the relation still says which calls
-- were made, but only in code that is generic over the device: to such code nothing but a call of the device leads
-- from one state to another. Code for one device can come from state to state in other ways.

use Rattle.std.specs.Prelude.{◌≡◌, ◌≢◌, ℕ, ◌+◌, ◌-◌, ◌^◌, ◌<◌, ◌≤◌, min, List, [], ◌∷◌, ◌++◌, length, take, drop}
use Rattle.std.specs.Prelude.{Option, None, Some, ◌⊎◌}
use Rattle.std.specs.List.{flat_map}
use Rattle.std.specs.Io.KnownBytes.{Keeps, Appends, Consumes, IsAtEnd}

-- what a write may do to a sink: it takes so many of the bytes, or fails
abbrev pub MayTake : Type 0 → Type 1
MayTake S = S → List ℕ → Option ℕ → S → Type 0

-- what a read with so much room may do to a source: it gives these bytes, or fails
abbrev pub MayGive : Type 0 → Type 1
MayGive S = S → ℕ → Option (List ℕ) → S → Type 0

-- what a sink does: what a write may do, and how many failures it has counted
pub record Writer (S : Type 0) : Type 1 where
  pub takes : MayTake S
  pub failures : S → ℕ

-- what a source does: what a read may do, and how many failures it has counted
pub record Reader (S : Type 0) : Type 1 where
  pub gives : MayGive S
  pub failures : S → ℕ

-- an end's two devices: the source that it reads from, and the sink that it writes into
pub record Devices (S K : Type 0) : Type 1 where
  pub reader : Reader S
  pub writer : Writer K

-- this sink and this source
abbrev pub on_devices : {S K : Type 0} → Writer K → Reader S → Devices S K
on_devices writer reader = record { reader = reader; writer = writer }

-- a count after one failure more, up to the greatest value of 64 bits
abbrev pub one_more : ℕ → ℕ
one_more count = min (count + 1) (2 ^ 64 - 1)

-- a write that didn't fail: what it was given, and how many of these bytes the sink took
pub record Taken : Type 0 where
  pub offered : List ℕ
  pub count : ℕ

-- what a sink took by some writes
abbrev pub bytes_taken : List Taken → List ℕ
bytes_taken writes = flat_map (λ w. take w.count w.offered) writes

-- a read that didn't fail: the length of the slice, and the bytes that the source gave
pub record Given : Type 0 where
  pub room : ℕ
  pub given : List ℕ

-- what a source gave by some reads
abbrev pub bytes_given : List Given → List ℕ
bytes_given reads = flat_map (λ r. r.given) reads

-- 4,294,967,296, the most reads that one call makes of its source
abbrev pub most_reads : ℕ
most_reads = 4294967296

-- a write that is a failure: the sink counts it, or it takes no byte of some
abbrev pub IsWriteFailure : List ℕ → Option ℕ → ℕ → ℕ → Type 0
IsWriteFailure offered None before after = after ≡ one_more before
IsWriteFailure offered (Some count) before after = (count ≡ 0) × (offered ≢ []) × (after ≡ before)

module _ {S : Type 0} where
  -- the writes, each of which took some byte, lead one after another from one state of the sink to the other
  abbrev pub Writes : MayTake S → S → List Taken → S → Type 0
  Writes takes from [] to = from ≡ to
  Writes takes from (w ∷ writes) to = (next : S) × takes from w.offered (Some w.count) next × (w.count ≢ 0)
      × Writes takes next writes to

  -- between the two states these bytes went out, in order and once, and no write failed
  pub record WentOut (writer : Writer S) (from to : S) (bytes : List ℕ) : Type 0 where
    pub writes : List Taken
    pub made : Writes writer.takes from writes to
    pub took : bytes_taken writes ≡ bytes
    pub uncounted : writer.failures to ≡ writer.failures from

  -- these bytes went out, and then a write failed, which was the last
  --
  -- It has the last write's offer and its answer, so that a sink that took nothing is seen here.
  pub record FailedAfter (writer : Writer S) (from to : S) (bytes : List ℕ) : Type 0 where
    pub before : S
    pub went_out : WentOut writer from before bytes
    pub offered : List ℕ
    pub answer : Option ℕ
    pub last : writer.takes before offered answer to
    pub failed : IsWriteFailure offered answer (writer.failures from) (writer.failures to)

  -- a prefix of the text went out, and not the whole of it, and then a write failed, which was the last
  pub record FailedWithin (writer : Writer S) (from to : S) (text : List ℕ) : Type 0 where
    pub count : ℕ
    pub within : count < length text
    pub failed : FailedAfter writer from to (take count text)

  -- the reads, each of which gave some byte, lead one after another from one state of the source to the other
  abbrev pub Reads : MayGive S → S → List Given → S → Type 0
  Reads gives from [] to = from ≡ to
  Reads gives from (r ∷ reads) to = (next : S) × gives from r.room (Some r.given) next × (r.given ≢ [])
      × Reads gives next reads to

  -- between the two states so many reads, no more than one call may make, gave these bytes, and none gave the end or
  -- failed
  --
  -- It has the most reads, so that each contract that says what a source gave also says that its call ends.
  pub record Gave (reader : Reader S) (from to : S) (count : ℕ) (bytes : List ℕ) : Type 0 where
    pub reads : List Given
    pub made : Reads reader.gives from reads to
    pub counted : length reads ≡ count
    pub within : count ≤ most_reads
    pub gave : bytes_given reads ≡ bytes
    pub uncounted : reader.failures to ≡ reader.failures from

  -- the source gave these bytes and then, by one read more, its end, and no read failed
  pub record GaveAll (reader : Reader S) (from to : S) (bytes : List ℕ) : Type 0 where
    pub before : S
    pub count : ℕ
    pub gave : Gave reader from before count bytes
    pub one_left : count < most_reads
    pub room : ℕ
    pub has_room : 0 < room
    pub end : reader.gives before room (Some []) to
    pub uncounted : reader.failures to ≡ reader.failures from

  -- the source gave these bytes, and then one read more failed, which was the last
  pub record ReadFailed (reader : Reader S) (from to : S) (bytes : List ℕ) : Type 0 where
    pub before : S
    pub count : ℕ
    pub gave : Gave reader from before count bytes
    pub one_left : count < most_reads
    pub room : ℕ
    pub last : reader.gives before room None to
    pub counted : reader.failures to ≡ one_more (reader.failures from)

  -- what a reader may call a fault of its source, after these bytes: a read failed, or the most reads didn't reach the
  -- end
  abbrev pub ReadFault : Reader S → S → S → List ℕ → Type 0
  ReadFault reader from to bytes = ReadFailed reader from to bytes
      ⊎ Gave reader from to most_reads bytes

-- The devices of this crate.

-- a source over a list gives as many bytes as there is room for, and never fails
abbrev pub list_gives : List ℕ → ℕ → Option (List ℕ) → List ℕ → Type 0
list_gives rest room None rest' = ⊥
list_gives rest room (Some bytes) rest' = (bytes ≡ take room rest) × (rest' ≡ drop room rest)

-- what a source over a list does
abbrev pub list_reader : Reader (List ℕ)
list_reader = record { gives = list_gives; failures = λ _. 0 }

-- the bytes that a sink holds, and its failures
pub record Held : Type 0 where
  pub bytes : List ℕ
  pub failures : ℕ

-- a sink that grows takes all that it is given, or fails and keeps what it held
abbrev pub held_takes : Held → List ℕ → Option ℕ → Held → Type 0
held_takes held bytes None held' = held'.bytes ≡ held.bytes
held_takes held bytes (Some count) held' = (count ≡ length bytes) × (held'.bytes ≡ held.bytes ++ bytes)

-- what a sink that grows does
abbrev pub held_writer : Writer Held
held_writer = record { takes = held_takes; failures = λ held. held.failures }

-- a reader or a writer, and its failures
pub record Counted (D : Type 0) : Type 0 where
  pub device : D
  pub failures : ℕ

-- a source over a reader gives what the reader had left, where that is known
abbrev pub reader_gives : {D : Type 0} → (D → Option (List ℕ)) → Counted D → ℕ → Option (List ℕ) → Counted D → Type 0
reader_gives remaining s room None t = Keeps (remaining s.device) (remaining t.device)
reader_gives remaining s room (Some bytes) t = Consumes (remaining s.device) (remaining t.device) bytes
    × (bytes ≡ [] → 0 < room → IsAtEnd (remaining t.device))

-- a sink over a writer adds to what the writer holds, where that is known
abbrev pub writer_takes : {D : Type 0} → (D → Option (List ℕ)) → Counted D → List ℕ → Option ℕ → Counted D → Type 0
writer_takes contents s bytes None t = Keeps (contents s.device) (contents t.device)
writer_takes contents s bytes (Some count) t = Appends (contents s.device) (contents t.device) (take count bytes)

-- what a source over a reader does
abbrev pub device_reader : {D : Type 0} → (D → Option (List ℕ)) → Reader (Counted D)
device_reader remaining = record { gives = reader_gives remaining; failures = λ s. s.failures }

-- what a sink over a writer does
abbrev pub device_writer : {D : Type 0} → (D → Option (List ℕ)) → Writer (Counted D)
device_writer contents = record { takes = writer_takes contents; failures = λ s. s.failures }

-- a device for tests: the bytes of a list, so many calls before each fails, and its failures
pub record Limited : Type 0 where
  pub bytes : List ℕ
  pub calls : ℕ
  pub failures : ℕ

-- a source that gives at most one byte a read, from the front of its bytes
abbrev pub limited_gives : Limited → ℕ → Option (List ℕ) → Limited → Type 0
limited_gives s room None t = (s.calls ≡ 0) × (t.calls ≡ 0) × (t.bytes ≡ s.bytes)
limited_gives s room (Some given) t = (s.calls ≡ t.calls + 1) × (given ≡ take (min room 1) s.bytes)
    × (t.bytes ≡ drop (min room 1) s.bytes)

-- a sink that takes at most one byte a write, and adds it to its bytes
abbrev pub limited_takes : Limited → List ℕ → Option ℕ → Limited → Type 0
limited_takes s bytes None t = (t.calls ≡ s.calls) × (t.bytes ≡ s.bytes)
limited_takes s bytes (Some count) t = (s.calls ≡ t.calls + 1) × (count ≡ min (length bytes) 1)
    × (t.bytes ≡ s.bytes ++ take 1 bytes)

-- what the source for tests does
abbrev pub limited_reader : Reader Limited
limited_reader = record { gives = limited_gives; failures = λ s. s.failures }

-- what the sink for tests does
abbrev pub limited_writer : Writer Limited
limited_writer = record { takes = limited_takes; failures = λ s. s.failures }

-- what a sink does that takes no byte
abbrev pub idle_writer : {D : Type 0} → Writer D
idle_writer = record { takes = λ _ _ answer _. answer ≡ Some 0; failures = λ _. 0 }
