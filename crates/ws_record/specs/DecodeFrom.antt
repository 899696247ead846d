-- Decoding all that a source gives.

use Rattle.std.specs.Prelude.{◌≡◌, ℕ, List, length}
use Rattle.ws_code.specs.Code.{Rules}
use Rattle.ws_code.specs.Device.{Reader, Gave, GaveAll, ReadFault}
use Rattle.ws_code.specs.declared.fault.Fault.{Fault}
use Rattle.ws_code.specs.declared.fault.Fault.TheVariants.{Refused, Truncated, Memory, Read}
use Rattle.ws_record.specs.Receiver.{MayGrow}
use Rattle.ws_record.specs.Refusal.{IsRefused, IsTruncated}

-- What a decoder of a source answers where it gives no items: the bytes that the source gave are refused, or
-- end too early, or the growth for a unit or an item of them was refused, or a read failed, or the most reads didn't
-- reach the end.
-- Each of these words counts the reads: no more are made than one call may make.
abbrev pub IsSourceFault : {Place U S : Type 0} → Rules Place U → Reader S → S → S → Fault → Type 0
IsSourceFault rules reader from to (Refused place reason) = (bytes : List ℕ) × (reads : ℕ)
    × Gave reader from to reads bytes × IsRefused rules bytes place reason
IsSourceFault rules reader from to (Truncated n) = (bytes : List ℕ) × GaveAll reader from to bytes
    × (n ≡ length bytes) × IsTruncated rules bytes
IsSourceFault rules reader from to Memory = (bytes : List ℕ) × (reads : ℕ)
    × Gave reader from to reads bytes × MayGrow rules bytes
IsSourceFault rules reader from to Read = (bytes : List ℕ) × ReadFault reader from to bytes
IsSourceFault rules reader from to fault = ⊥
