-- Why an end takes no more bytes, and which of them it has refused

use Rattle.std.specs.Prelude.{◌≡◌, ◌+◌, ◌^◌, ◌⊎◌, ℕ, Option, Some, None, IsSome}
use Rattle.ws_code.specs.declared.reason.Reason.{Reason}
use Rattle.ws_end.specs.declared.refusal.Refusal.{Refusal}
use Rattle.ws_end.specs.declared.refusal.Refusal.TheVariants.{At, Failed, Memory}

-- the byte by which an end has ended, and the reason; none where it goes on, where it has taken as many bytes as can be
-- counted, or where a growth was refused
abbrev pub refused_byte : Option Refusal → Option (ℕ × Reason)
refused_byte (Some (At place reason)) = Some (place, reason)
refused_byte (Some Failed) = None
refused_byte (Some Memory) = None
refused_byte None = None

-- An end is shut: it has ended, at a byte that it refused or for which memory was wanting, or it has taken as many as
-- can be counted. It takes no more, and nothing that is done at it has an effect.
abbrev pub IsShut : Option Refusal → ℕ → Type 0
IsShut ended taken = IsSome ended ⊎ (taken + 1 ≡ 2 ^ 64)
