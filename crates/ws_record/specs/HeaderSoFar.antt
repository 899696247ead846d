-- The bytes of a header that has come in part (RFC 1205, section 3).

use Rattle.std.specs.Prelude.{◌≡◌, ℕ, ◌+◌, ◌*◌, ◌<◌, ◌≤◌, List, length, slice_index}
use Rattle.ws_record.specs.declared.opcode.Opcode.{Opcode}
use Rattle.ws_record.specs.declared.record.Head.{Head}
use Rattle.ws_record.specs.Grammar.{opcode_byte}

-- the length that a record's first two bytes declare
abbrev pub declared : List ℕ → ℕ
declared bytes = slice_index bytes 0 * 256 + slice_index bytes 1

-- what ten bytes of a header say, or nine and the opcode of the tenth
abbrev pub head_in : List ℕ → Opcode → Head
head_in bytes opcode = record {
  flags = slice_index bytes 7 * 256 + slice_index bytes 8;
  opcode = opcode;
  length = declared bytes;
}

-- the bytes of a record, as far as they are there, are those of a right header
pub record HeaderSoFar (bytes : List ℕ) : Type 0 where
  pub declares : 1 < length bytes → 10 ≤ declared bytes
  pub kind_high : 2 < length bytes → slice_index bytes 2 ≡ 0x12
  pub kind_low : 3 < length bytes → slice_index bytes 3 ≡ 0xa0
  pub reserved_high : 4 < length bytes → slice_index bytes 4 ≡ 0
  pub reserved_low : 5 < length bytes → slice_index bytes 5 ≡ 0
  pub variable_length : 6 < length bytes → slice_index bytes 6 ≡ 4
  pub opcode : 9 < length bytes → (opcode : Opcode) × (opcode_byte opcode ≡ slice_index bytes 9)
