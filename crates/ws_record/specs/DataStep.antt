-- The record that a whole open one is (RFC 1205, section 3).

use Rattle.std.specs.Prelude.{◌≡◌, List, Some}
use Rattle.ws_code.specs.Code.{Rules}
use Rattle.ws_record.specs.declared.record.Head.{Head}
use Rattle.ws_record.specs.declared.record.Record.{Record}
use Rattle.ws_record.specs.Grammar.{IsRecord, record_bytes}
use Rattle.ws_record.specs.OpenRecord.{RecordSoFar}

-- the record that a whole open one is
abbrev pub record_of : {U : Type 0} → Head → List U → Record U
record_of head units = record { flags = head.flags; opcode = head.opcode; body = units }

module _ {Place U : Type 0} where
  -- the open record is whole, and a record as its header says
  pub record IsWholeRecord (rules : Rules Place U) (so_far : RecordSoFar U) (head : Head) : Type 0 where
    pub is_head : so_far.head ≡ Some head
    pub is_record : IsRecord rules (record_of head so_far.units)
    pub carries : so_far.bytes ≡ record_bytes rules (record_of head so_far.units)
