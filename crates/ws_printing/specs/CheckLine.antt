-- What `check` prints: the line of what holds of a stream.

use Rattle.std.specs.Prelude.{◌≡◌, ℕ, ◌+◌, List, [], ◌∷◌, ◌++◌, Bool, true, false, length, codes, Result, Ok, Err}
use Rattle.std.specs.Fmt.{decimal}
use Rattle.ws_code.specs.Code.{Rules}
use Rattle.ws_code.specs.declared.fault.Fault.{Fault}
use Rattle.ws_code.specs.declared.fault.Fault.TheVariants as faults
use Rattle.ws_record.specs.declared.record.Item.{Item}
use Rattle.ws_record.specs.declared.record.Item.TheVariants.{Record, Telnet}
use Rattle.ws_record.specs.Grammar.{IsInGrammar}
use Rattle.ws_record.specs.Refusal.{IsRefused, IsTruncated}
use Rattle.ws_printing.specs.PlaceAndReason.{place_and_reason}
use Rattle.ws_printing.specs.declared.verdict.Verdict.{Verdict}
use Rattle.ws_printing.specs.declared.verdict.Verdict.TheVariants.{Accepted, Refused, Truncated}

-- how many of the items are records
abbrev pub record_count : {U : Type 0} → List (Item U) → ℕ
record_count [] = 0
record_count (Record r ∷ items) = record_count items + 1
record_count (Telnet t ∷ items) = record_count items

-- how many of the items are Telnet commands
abbrev pub command_count : {U : Type 0} → List (Item U) → ℕ
command_count [] = 0
command_count (Record r ∷ items) = command_count items
command_count (Telnet t ∷ items) = command_count items + 1

-- what holds of the bytes: they are accepted, refused at a place, or end too early
abbrev pub IsVerdict : {Place U : Type 0} → Rules Place U → List ℕ → Verdict → Type 0
IsVerdict {Place} {U} rules bytes (Accepted records commands) = (items : List (Item U)) × IsInGrammar rules bytes items
    × (records ≡ record_count items) × (commands ≡ command_count items)
IsVerdict rules bytes (Refused place reason) = IsRefused rules bytes place reason
IsVerdict rules bytes (Truncated n) = (n ≡ length bytes) × IsTruncated rules bytes

-- the verdict is that the whole stream was accepted
abbrev pub is_accepted : Verdict → Bool
is_accepted (Accepted records commands) = true
is_accepted verdict = false

-- the line that `check` prints: the verdict, of so many bytes
abbrev pub line_of : Verdict → ℕ → List ℕ
line_of (Accepted records commands) size = codes "accepted: " ++ decimal records ++ codes " records, "
    ++ decimal commands ++ codes " commands, " ++ decimal size ++ (codes " bytes" ++ 10 ∷ [])
line_of (Refused place reason) size = codes "refused at " ++ place_and_reason place reason
line_of (Truncated n) size = codes "truncated at " ++ decimal n ++ 10 ∷ []

-- the verdict that a receiver's fault is, where it is one
abbrev pub verdict_by : Fault → Result Verdict Fault
verdict_by (faults.Refused place reason) = Ok (Refused place reason)
verdict_by (faults.Truncated at) = Ok (Truncated at)
verdict_by fault = Err fault
