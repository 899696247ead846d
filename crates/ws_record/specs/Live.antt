-- A live decoder: what it keeps, which bytes lead to it, and what it answers to one byte more (RFC 854, 885, 1205).

use Rattle.std.specs.Prelude.{◌≡◌, ℕ, ◌+◌, Bool, false, List, [], ◌∷◌, ◌++◌, Option, Some, None, length, drop}
use Rattle.ws_code.specs.Code.{Rules, IsSpelled, IsCut}
use Rattle.ws_telnet.specs.Token.{token_rules}
use Rattle.ws_telnet.specs.declared.token.Sub.{Sub}
use Rattle.ws_telnet.specs.declared.token.Token.TheVariants.{Data}
use Rattle.ws_record.specs.declared.record.Head.{Head}
use Rattle.ws_record.specs.declared.record.Item.{Item}
use Rattle.ws_record.specs.declared.record.Item.TheVariants.{Record as RecordItem, Telnet as TelnetItem}
use Rattle.ws_record.specs.declared.live.Step.{Step}
use Rattle.ws_record.specs.declared.live.Step.TheVariants.{More, Open, Unit as Whole, Close, Telnet as Command, Refused}
use Rattle.ws_record.specs.declared.live.Step.TheVariants.{Failed}
use Rattle.ws_record.specs.Grammar.{Holds}
use Rattle.ws_record.specs.Refusal.{Layer, IsOpen, IsRefused}
use Rattle.ws_record.specs.OpenRecord.{RecordSoFar, no_record, Keeping, HasRead, IsHead}
use Rattle.ws_record.specs.DataStep.{record_of}

-- What a live decoder keeps: how many bytes it took, the token that they end inside of, the subnegotiation that ended
-- last, the open record, and whether it has failed.
pub record Watching (Place : Type 0) : Type 0 where
  pub taken : ℕ
  pub begun : List ℕ
  pub sub : Sub
  pub reader : Keeping Place
  pub failed : Bool

-- What bytes of a stream have come to: the items in them, and the open record after these.
pub record StreamSoFar (U : Type 0) : Type 0 where
  pub bytes : List ℕ
  pub items : List (Item U)
  pub so_far : RecordSoFar U

-- the stream of these bytes, with these items and this open record
abbrev pub stream : {U : Type 0} → List ℕ → List (Item U) → RecordSoFar U → StreamSoFar U
stream bytes items so_far = record { bytes = bytes; items = items; so_far = so_far }

-- the stream with these bytes more, in which nothing is complete
abbrev pub with_bytes : {U : Type 0} → StreamSoFar U → List ℕ → StreamSoFar U
with_bytes stream more = record stream { bytes = stream.bytes ++ more }

module _ {Place U : Type 0} where
  -- The bytes lead to the decoder: they hold these items and this open record, and none of them is refused.
  pub record Leads (rules : Rules Place U) (live : Watching Place) (bytes : List ℕ) (items : List (Item U))
      (so_far : RecordSoFar U) : Type 0 where
    pub count : live.taken ≡ length bytes
    pub holds : Holds rules bytes items so_far.bytes live.begun
    pub reads : HasRead rules live.reader so_far
    pub opened : (layer : Layer) → IsOpen rules layer bytes
    pub works : live.failed ≡ false

  -- The bytes lead to the decoder with these items, and an open record with this head and these units.
  abbrev pub LeadsWith : Rules Place U → Watching Place → List ℕ → List (Item U) → Option Head → List U → Type 0
  LeadsWith rules live bytes items head units = (so_far : List ℕ)
      × Leads rules live bytes items (record { bytes = so_far; head = head; units = units })

  -- The bytes hold these items, then an open record with this head and these units. Nothing more is complete in them.
  pub record HoldsPart (rules : Rules Place U) (bytes : List ℕ) (items : List (Item U)) (head : Option Head)
      (units : List U) : Type 0 where
    pub so_far : List ℕ
    pub begun : List ℕ
    pub unfinished : List ℕ
    pub holds : Holds rules bytes items so_far begun
    pub is_head : IsHead head so_far
    pub cut : IsCut rules (drop 10 so_far) units unfinished

  -- After these bytes, which hold these items, the byte completes a unit of the open record's body, and no layer
  -- refuses a byte up to it.
  pub record CompletesUnit (rules : Rules Place U) (bytes : List ℕ) (items : List (Item U)) (byte : ℕ)
      : Type 0 where
    pub so_far : List ℕ
    pub begun : List ℕ
    pub value : ℕ
    pub units : List U
    pub unit : U
    pub holds : Holds rules bytes items so_far begun
    pub spelled : IsSpelled token_rules tt (begun ++ byte ∷ []) (Data value)
    pub cut : IsCut rules (drop 10 (so_far ++ value ∷ [])) (units ++ unit ∷ []) []
    pub opened : (layer : Layer) → IsOpen rules layer (bytes ++ byte ∷ [])

  -- What the last byte of the stream gives, where nothing was complete with those before it: its step says what.
  abbrev pub IsFrontStep : Rules Place U → Watching Place → StreamSoFar U → Step U → Type 0
  IsFrontStep rules new stream More =
      LeadsWith rules new stream.bytes stream.items stream.so_far.head stream.so_far.units
  IsFrontStep rules new stream (Open head) = (stream.so_far.head ≡ None)
      × LeadsWith rules new stream.bytes stream.items (Some head) stream.so_far.units
  IsFrontStep rules new stream (Whole unit) =
      LeadsWith rules new stream.bytes stream.items stream.so_far.head (stream.so_far.units ++ unit ∷ [])
  IsFrontStep rules new stream Close = (head : Head) × (stream.so_far.head ≡ Some head)
      × Leads rules new stream.bytes (stream.items ++ RecordItem (record_of head stream.so_far.units) ∷ []) no_record
  IsFrontStep rules new stream (Command telnet) =
      Leads rules new stream.bytes (stream.items ++ TelnetItem telnet ∷ []) stream.so_far
  IsFrontStep rules new stream (Refused place reason) =
      (length stream.bytes ≡ place + 1) × IsRefused rules stream.bytes place reason
  IsFrontStep rules new stream Failed = ⊥

  -- What one byte more gives: its step says what is complete with it, and a refusal is at this byte.
  --
  -- This is of a stream over any body; what a station does at a byte is IsPushedOn of ws_session.
  abbrev pub IsLiveStep : Rules Place U → Watching Place → StreamSoFar U → ℕ → Step U → Type 0
  IsLiveStep rules new stream byte (Refused place reason) = (place ≡ length stream.bytes)
      × IsRefused rules (stream.bytes ++ byte ∷ []) place reason
  IsLiveStep rules new stream byte step = IsFrontStep rules new (with_bytes stream (byte ∷ [])) step

-- a fact where the step is such that nothing follows it
abbrev pub OnEnd : {U : Type 0} → Step U → Type 0 → Type 0
OnEnd (Refused place reason) P = P
OnEnd Failed P = P
OnEnd step P = Unit {0}
