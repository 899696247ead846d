-- An array of 5,404 bytes that is written into

use Rattle.std.specs.Prelude.{◌≡◌, ℕ, ◌-◌, min, List, ◌++◌, Option, Some, None, length, take}
use Rattle.ws_code.specs.Device.{Writer}
use Rattle.ws_c.specs.declared.wire.TheConstants.{ANSWER_ROOM}

-- an array takes as many bytes as it has room for, and never fails
abbrev pub array_takes : List ℕ → List ℕ → Option ℕ → List ℕ → Type 0
array_takes held bytes None after = ⊥
array_takes held bytes (Some count) after = (count ≡ min (length bytes) (ANSWER_ROOM - length held))
    × (after ≡ held ++ take count bytes)

-- what a sink over an array does
abbrev pub array_writer : Writer (List ℕ)
array_writer = record { takes = array_takes; failures = λ _. 0 }
