-- Records (RFC 1205, section 3)

use Rattle.std.specs.Prelude.{◌≡◌, ℕ, ◌+◌, ◌^◌, ◌<◌, List, [], ◌∷◌, ◌++◌, map, length}
use Rattle.std.specs.List.{flat_map, AllByRecursion}
use Rattle.ws_code.specs.Code.{Rules, IsWhole, IsCut, spelling_of}
pub use Rattle.ws_code.specs.TwoBytes.{two_bytes}
use Rattle.ws_telnet.specs.Streams.{carried, command_of, joined, HasNoEor}
use Rattle.ws_telnet.specs.Token.{token_rules}
use Rattle.ws_telnet.specs.declared.token.Token.{Token}
use Rattle.ws_record.specs.declared.opcode.Opcode.{Opcode}
use Rattle.ws_record.specs.declared.opcode.Opcode.TheVariants.{NoOperation, Invite, OutputOnly, PutGet, SaveScreen}
use Rattle.ws_record.specs.declared.opcode.Opcode.TheVariants.{RestoreScreen, ReadImmediate, ReadScreen, CancelInvite}
use Rattle.ws_record.specs.declared.opcode.Opcode.TheVariants.{MessageLightOn, MessageLightOff}
use Rattle.ws_record.specs.declared.record.Record.{Record}
use Rattle.ws_record.specs.declared.record.Item.{Item}
use Rattle.ws_record.specs.declared.record.Item.TheVariants.{Record as RecordItem, Telnet as TelnetItem}

-- the byte of an opcode (RFC 1205, section 4)
abbrev pub opcode_byte : Opcode → ℕ
opcode_byte NoOperation = 0x00
opcode_byte Invite = 0x01
opcode_byte OutputOnly = 0x02
opcode_byte PutGet = 0x03
opcode_byte SaveScreen = 0x04
opcode_byte RestoreScreen = 0x05
opcode_byte ReadImmediate = 0x06
opcode_byte ReadScreen = 0x08
opcode_byte CancelInvite = 0x0a
opcode_byte MessageLightOn = 0x0b
opcode_byte MessageLightOff = 0x0c

-- the ten header bytes of a record of this length
abbrev pub header : ℕ → ℕ → Opcode → List ℕ
header len flags opcode = two_bytes len ++ 0x12 ∷ 0xa0 ∷ 0 ∷ 0 ∷ 4 ∷ [] ++ two_bytes flags ++ opcode_byte opcode ∷ []

-- the bytes begin with a right header, which declares the length of them all
pub record IsFramed (bytes : List ℕ) : Type 0 where
  pub flags : ℕ
  pub opcode : Opcode
  pub rest : List ℕ
  pub flags_fit : flags < 2 ^ 16
  pub length_fits : length bytes < 2 ^ 16
  pub spelled : bytes ≡ header (length bytes) flags opcode ++ rest

module _ {Place U : Type 0} where
  -- the bytes after a header are the spelling of a body
  pub record IsBodyBytes (rules : Rules Place U) (bytes : List ℕ) : Type 0 where
    pub units : List U
    pub whole : IsWhole rules units
    pub spelled : bytes ≡ spelling_of rules units

  -- the bytes of a record, its header and its body, before an FF is doubled
  abbrev pub record_bytes : Rules Place U → Record U → List ℕ
  record_bytes rules r = header (10 + length (spelling_of rules r.body)) r.flags r.opcode ++ spelling_of rules r.body

  -- a record that the grammar has: a whole body, and flags and a length that two bytes can say (RFC 1205, section 3)
  pub record IsRecord (rules : Rules Place U) (r : Record U) : Type 0 where
    pub body : IsWhole rules r.body
    pub flags_fit : r.flags < 2 ^ 16
    pub length_fits : length (record_bytes rules r) < 2 ^ 16

-- Items (RFC 854: a command may stand between any two tokens; RFC 885: EOR ends a record)

-- the Telnet commands among tokens, in order, as items
abbrev pub commands : {U : Type 0} → List Token → List (Item U)
commands tokens = map TelnetItem (flat_map command_of tokens)

module _ {Place U : Type 0} where
  -- tokens up to an EOR, without it, and the record whose bytes they carry
  pub record IsStretch (rules : Rules Place U) (stretch : List Token × Record U) : Type 0 where
    pub no_eor : HasNoEor stretch.0
    pub is_record : IsRecord rules stretch.1
    pub carries : carried stretch.0 ≡ record_bytes rules stretch.1

  -- The bytes hold the items, then an open record of these bytes, then an unfinished token.
  -- A command inside a record comes before it.
  --
  -- These are arguments and no record of three, which would be taken apart wherever a clause says that one is empty.
  pub record Holds (rules : Rules Place U) (bytes : List ℕ) (items : List (Item U))
      (record_so_far begun : List ℕ) : Type 0 where
    pub stretches : List (List Token × Record U)
    pub rest : List Token
    pub each : AllByRecursion (IsStretch rules) stretches
    pub no_eor : HasNoEor rest
    pub cut : IsCut token_rules bytes (joined (map (λ s. s.0) stretches) rest) begun
    pub are_items : items ≡ flat_map (λ s. commands s.0 ++ RecordItem s.1 ∷ []) stretches ++ commands rest
    pub is_open : record_so_far ≡ carried rest

  -- the bytes spell the items, perhaps with whole tokens of an open record after them
  abbrev pub Spells : Rules Place U → List ℕ → List (Item U) → Type 0
  Spells rules bytes items = (record_so_far : List ℕ) × Holds rules bytes items record_so_far []

  -- the bytes are in the grammar and spell the items: no record is left open in them, and no token unfinished
  abbrev pub IsInGrammar : Rules Place U → List ℕ → List (Item U) → Type 0
  IsInGrammar rules bytes items = Holds rules bytes items [] []
