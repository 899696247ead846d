-- A receiver: what it keeps, which bytes and items lead to it, and which faults may come (RFC 885, 1205).

use Rattle.std.specs.Prelude.{◌≡◌, ℕ, ◌+◌, ◌≤◌, List, [], ◌∷◌, ◌++◌, ◌⊎◌, Option, Some, None}
use Rattle.std.specs.Prelude.{length, take}
use Rattle.ws_code.specs.Code.{Rules}
use Rattle.ws_code.specs.declared.fault.Fault.{Fault}
use Rattle.ws_code.specs.declared.fault.Fault.TheVariants.{Refused, Truncated, Memory}
use Rattle.ws_record.specs.declared.record.Head.{Head}
use Rattle.ws_record.specs.declared.record.Item.{Item}
use Rattle.ws_record.specs.Grammar.{Holds}
use Rattle.ws_record.specs.Refusal.{Layer, IsOpen, IsRefused, IsTruncated}
use Rattle.ws_record.specs.Live.{Watching, LeadsWith, CompletesUnit}

-- What a receiver keeps: a live decoder, and the units of the open record.
pub record Receiving (Place U : Type 0) : Type 0 where
  pub live : Watching Place
  pub units : List U

-- an item as a list, where there is one
abbrev pub given : {U : Type 0} → Option (Item U) → List (Item U)
given None = []
given (Some item) = item ∷ []

module _ {Place U : Type 0} where
  -- the bytes lead to the receiver, which has given the items
  pub record HasReceived (rules : Rules Place U) (receiver : Receiving Place U) (bytes : List ℕ)
      (items : List (Item U)) : Type 0 where
    pub head : Option Head
    pub leads : LeadsWith rules receiver.live bytes items head receiver.units

  -- after these bytes and the items that they hold a byte of the piece completes a unit of the next record
  abbrev pub HasUnit : Rules Place U → List ℕ → List (Item U) → List ℕ → Type 0
  HasUnit rules bytes items piece = (front : List ℕ) × (byte : ℕ) × (rest : List ℕ)
      × (piece ≡ front ++ byte ∷ rest) × CompletesUnit rules (bytes ++ front) items byte

  -- an item is complete in a front of the bytes, and no layer refuses a byte of that
  pub record HasItem (rules : Rules Place U) (bytes : List ℕ) : Type 0 where
    pub front : List ℕ
    pub rest : List ℕ
    pub split : bytes ≡ front ++ rest
    pub items : List (Item U)
    pub item : Item U
    pub so_far : List ℕ
    pub begun : List ℕ
    pub holds : Holds rules front (items ++ item ∷ []) so_far begun
    pub opened : (layer : Layer) → IsOpen rules layer front

  -- a unit or an item is complete in the bytes, so that a list grows for it
  abbrev pub MayGrow : Rules Place U → List ℕ → Type 0
  MayGrow rules bytes = ((items : List (Item U)) × HasUnit rules [] items bytes) ⊎ HasItem rules bytes

  -- a byte after these is refused, or the growth for a unit that is complete with it was
  abbrev pub IsTakeFault : Rules Place U → List ℕ → List (Item U) → ℕ → Fault → Type 0
  IsTakeFault rules bytes items byte (Refused place reason) = (place ≡ length bytes)
      × IsRefused rules (bytes ++ byte ∷ []) place reason
  IsTakeFault rules bytes items byte Memory = CompletesUnit rules bytes items byte
  IsTakeFault rules bytes items byte fault = ⊥

  -- a byte of the piece after these is refused, or the growth for a unit of it was
  abbrev pub IsFeedFault : Rules Place U → List ℕ → List (Item U) → List ℕ → Fault → Type 0
  IsFeedFault rules bytes items piece (Refused place reason) = (length bytes ≤ place)
      × IsRefused rules (bytes ++ piece) place reason
  IsFeedFault rules bytes items piece Memory = HasUnit rules bytes items piece
  IsFeedFault rules bytes items piece fault = ⊥

  -- a fault of a piece, or the growth for an item of it was refused
  abbrev pub IsTakeAllFault : Rules Place U → List ℕ → List ℕ → Fault → Type 0
  IsTakeAllFault rules bytes piece fault = ((items : List (Item U)) × IsFeedFault rules bytes items piece fault)
      ⊎ ((fault ≡ Memory) × HasItem rules (bytes ++ piece))

  -- where a byte of the piece is refused, no further item is complete before it
  abbrev pub NoneBefore : Rules Place U → List ℕ → List ℕ → List (Item U) → Fault → Type 0
  NoneBefore rules bytes piece items (Refused place reason) = (n : ℕ) → length bytes + n ≤ place
      → (so_far begun : List ℕ) × Holds rules (bytes ++ take n piece) items so_far begun
  NoneBefore rules bytes piece items fault = Unit {0}

  -- what a decoder of all the bytes answers where it gives no items
  abbrev pub IsDecodeFault : Rules Place U → List ℕ → Fault → Type 0
  IsDecodeFault rules bytes (Refused place reason) = IsRefused rules bytes place reason
  IsDecodeFault rules bytes (Truncated n) = (n ≡ length bytes) × IsTruncated rules bytes
  IsDecodeFault rules bytes Memory = MayGrow rules bytes
  IsDecodeFault rules bytes fault = ⊥
