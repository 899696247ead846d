-- The open record of a stream, and what its reader keeps (RFC 1205, section 3).

use Rattle.std.specs.Prelude.{◌≡◌, ℕ, ◌+◌, ◌<◌, ◌^◌, List, [], ◌∷◌, ◌++◌, ◌⊎◌, Option, Some, None, IfSome, length, drop}
use Rattle.std.specs.Prelude.{take}
use Rattle.ws_code.specs.Code.{Rules, IsCut, AreBytes, place_after}
use Rattle.ws_code.specs.declared.reason.Reason.{Reason}
use Rattle.ws_code.specs.declared.reason.Reason.TheVariants.{EndedInside, TooShort}
use Rattle.ws_telnet.specs.declared.token.Token.TheVariants.{Data}
use Rattle.ws_record.specs.declared.record.Head.{Head}
use Rattle.ws_record.specs.Grammar.{IsFramed, IsBodyBytes, header}
use Rattle.ws_record.specs.Refusal.{header_reason, IsBodyReason}

-- An open record: its bytes, what its header says once that is whole, and the units of its body.
pub record RecordSoFar (U : Type 0) : Type 0 where
  pub bytes : List ℕ
  pub head : Option Head
  pub units : List U

-- the open record of which no byte has come
abbrev pub no_record : {U : Type 0} → RecordSoFar U
no_record = record { bytes = []; head = None; units = [] }

-- the record bytes so far can become a record with a right header
pub record CanBeFramed (so_far : List ℕ) : Type 0 where
  pub more : List ℕ
  pub bytes : AreBytes more
  pub framed : IsFramed (so_far ++ more)

-- the ten header bytes are there, and say this; or they aren't there yet
abbrev pub IsHead : Option Head → List ℕ → Type 0
IsHead None bytes = length bytes < 10
IsHead (Some head) bytes = (head.flags < 2 ^ 16) × (head.length < 2 ^ 16)
    × (take 10 bytes ≡ header head.length head.flags head.opcode)

-- What a reader of a record keeps of it: its header bytes, how many bytes its header declares beyond
-- those read, where its next unit stands, and the bytes of that unit.
pub record Keeping (Place : Type 0) : Type 0 where
  pub header : List ℕ
  pub left : ℕ
  pub place : Place
  pub begun : List ℕ

module _ {Place U : Type 0} where
  -- the record so far leads to the reader: what the reader keeps is told of it
  pub record HasRead (rules : Rules Place U) (reader : Keeping Place) (so_far : RecordSoFar U) : Type 0 where
    pub bytes : AreBytes so_far.bytes
    pub framed : CanBeFramed so_far.bytes
    pub head : IsHead so_far.head so_far.bytes
    pub header : reader.header ≡ take 10 so_far.bytes
    pub left : IfSome so_far.head (λ head. length so_far.bytes + reader.left ≡ head.length)
    pub cut : IsCut rules (drop 10 so_far.bytes) so_far.units reader.begun
    pub at_place : reader.place ≡ place_after rules rules.first so_far.units

  -- no record has this byte next
  abbrev pub IsDataRefused : Rules Place U → List ℕ → ℕ → Reason → Type 0
  IsDataRefused rules so_far b reason =
      (((m : List ℕ) → IsFramed (so_far ++ b ∷ m) → ⊥) × (reason ≡ header_reason so_far (Data b)))
      ⊎ (CanBeFramed (so_far ++ b ∷ []) × ((m : List ℕ) → IsBodyBytes rules (drop 10 (so_far ++ b ∷ m)) → ⊥)
      × IsBodyReason rules (drop 10 so_far) (Data b) reason)

  -- no record ends here
  abbrev pub IsEndRefused : Rules Place U → List ℕ → Reason → Type 0
  IsEndRefused rules so_far reason =
      ((IsFramed so_far → ⊥) × (reason ≡ TooShort))
      ⊎ (IsFramed so_far × (IsBodyBytes rules (drop 10 so_far) → ⊥) × (reason ≡ EndedInside))
