-- A negative response (RFC 1205, flag ERR; SC30-3533, negative responses)

use Rattle.std.specs.Prelude.{ℕ, List, [], ◌∷◌, ◌++◌, Bool, ◌&&◌, ◌||◌, nat_le, if◌then◌else◌}
use Rattle.ws_code.specs.Reason.{number_of}
use Rattle.ws_code.specs.declared.reason.Reason.{Reason}
use Rattle.ws_record.specs.declared.opcode.Opcode.TheVariants.{NoOperation}
use Rattle.ws_record.specs.Encode.{record_spelling}
use Rattle.ws_record.specs.Grammar.{header}

-- the number is one of these
abbrev is_within : ℕ → ℕ → ℕ → Bool
is_within from to n = nat_le from n && nat_le n to

-- a reason of a record: of its header, its body, or the screen before it
abbrev pub is_of_record : Reason → Bool
is_of_record reason = is_within 10 45 (number_of reason) || is_within 50 55 (number_of reason)

-- a reason of a command
abbrev pub is_of_command : Reason → Bool
is_of_command reason = is_within 20 21 (number_of reason) || is_within 30 36 (number_of reason)

-- what is told of why
abbrev pub sense : Reason → List ℕ
sense reason = if is_of_command reason then 0x10 ∷ 0x03 ∷ 0x01 ∷ 0x01 ∷ [] else 0x10 ∷ 0x05 ∷ 0x01 ∷ 0x21 ∷ []

-- one negative response
abbrev pub negative : Reason → List ℕ
negative reason = record_spelling (header 14 0x8000 NoOperation ++ sense reason)
