-- Encoding: the plain spelling of items, and which lists have one that is read back

use Rattle.std.specs.Prelude.{◌≡◌, ◌≢◌, ℕ, ◌^◌, ◌<◌, ◌≤◌, List, [], ◌∷◌, ◌++◌, length}
use Rattle.std.specs.List.{flat_map, AllByRecursion}
use Rattle.ws_code.specs.Code.{Rules, IsWhole}
use Rattle.ws_code.specs.Device.{Writer, FailedWithin}
use Rattle.ws_telnet.specs.Token.{doubled, telnet_spelling, IsTelnet}
use Rattle.ws_record.specs.declared.record.Item.{Item}
use Rattle.ws_record.specs.declared.record.Item.TheVariants.{Record as RecordItem, Telnet as TelnetItem}
use Rattle.ws_record.specs.declared.encoder.EncodeFault.{EncodeFault}
use Rattle.ws_record.specs.declared.encoder.EncodeFault.TheVariants.{TooBig, BadSequence, Memory, Write}
use Rattle.ws_record.specs.Grammar.{record_bytes}

-- a record's bytes with each FF doubled, and IAC EOR after them (RFC 854; RFC 885)
abbrev pub record_spelling : List ℕ → List ℕ
record_spelling bytes = flat_map doubled bytes ++ 0xff ∷ 0xef ∷ []

module _ {Place U : Type 0} where
  -- the bytes of an item: a record to its IAC EOR, or a Telnet command between records
  abbrev pub item_spelling : Rules Place U → Item U → List ℕ
  item_spelling rules (RecordItem r) = record_spelling (record_bytes rules r)
  item_spelling rules (TelnetItem t) = telnet_spelling t

  -- the spelling of items one after another, with no command inside a record
  abbrev pub plain_spelling : Rules Place U → List (Item U) → List ℕ
  plain_spelling rules items = flat_map (item_spelling rules) items

  -- the item can be encoded: a record's list is a body, and its bytes fit the length in the header (RFC 1205,
  -- section 3)
  abbrev pub CanBeEncoded : Rules Place U → Item U → Type 0
  CanBeEncoded rules (RecordItem r) = IsWhole rules r.body × (length (record_bytes rules r) < 2 ^ 16)
  CanBeEncoded rules (TelnetItem t) = Unit {0}

  -- each item of a list can be encoded
  abbrev pub CanAllBeEncoded : Rules Place U → List (Item U) → Type 0
  CanAllBeEncoded rules items = AllByRecursion (CanBeEncoded rules) items

  -- the item is a record whose units are no body
  abbrev pub IsBadSequence : Rules Place U → Item U → Type 0
  IsBadSequence rules (RecordItem r) = ¬ IsWhole rules r.body
  IsBadSequence rules (TelnetItem t) = ⊥

  -- the item is a record whose units are a body, and whose bytes are more than a header can declare
  abbrev pub IsTooBig : Rules Place U → Item U → Type 0
  IsTooBig rules (RecordItem r) = IsWhole rules r.body × (2 ^ 16 ≤ length (record_bytes rules r))
  IsTooBig rules (TelnetItem t) = ⊥

  -- the item at the index has the property, and each item before it can be encoded
  pub record IsFirst (Q : Item U → Type 0) (rules : Rules Place U) (items : List (Item U)) (index : ℕ) : Type 0 where
    pub before : List (Item U)
    pub item : Item U
    pub after : List (Item U)
    pub split : items ≡ before ++ item ∷ after
    pub at_index : index ≡ length before
    pub each : CanAllBeEncoded rules before
    pub is : Q item

  -- the list's own fault: it names the first item that can't be encoded, and why that can't
  abbrev pub IsListFault : Rules Place U → List (Item U) → EncodeFault → Type 0
  IsListFault rules items (TooBig index) = IsFirst (IsTooBig rules) rules items index
  IsListFault rules items (BadSequence index) = IsFirst (IsBadSequence rules) rules items index
  IsListFault rules items fault = ⊥

  -- What an encoder into memory may answer: the list's own fault, or, where the list has none and isn't empty, that a
  -- growth was refused.
  abbrev pub IsEncodeFault : Rules Place U → List (Item U) → EncodeFault → Type 0
  IsEncodeFault rules items Memory = CanAllBeEncoded rules items × (items ≢ [])
  IsEncodeFault rules items Write = ⊥
  IsEncodeFault rules items fault = IsListFault rules items fault

  -- What an encoder into a sink may answer: the list's own fault, with the sink left alone; or, where the list has
  -- none, that a write failed after a proper front of the spelling.
  abbrev pub IsWriteFault : {S : Type 0} → Rules Place U → List (Item U) → Writer S → S → S → EncodeFault
      → Type 0
  IsWriteFault rules items writer from to Write = CanAllBeEncoded rules items
      × FailedWithin writer from to (plain_spelling rules items)
  IsWriteFault rules items writer from to Memory = ⊥
  IsWriteFault rules items writer from to fault = IsListFault rules items fault × (to ≡ from)

-- the numbers and lists in the item are those that its type allows; those in a record's units are told by its body
abbrev pub IsInRange : {U : Type 0} → Item U → Type 0
IsInRange (RecordItem r) = r.flags < 2 ^ 16
IsInRange (TelnetItem t) = IsTelnet t
