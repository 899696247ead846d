-- Where bytes can be no body of a record, and why.

use Rattle.std.specs.Prelude.{◌≡◌, ◌≢◌, ◌⊎◌, ℕ, List, [], ◌∷◌, ◌++◌, length, false, Ok}
use Rattle.hex.specs.Hex.{decode_of}
use Rattle.ws_code.specs.Code.{Rules, IsPrefix}
use Rattle.ws_code.specs.Run.{HasReadValues, Reading, reading}
use Rattle.ws_code.specs.declared.reason.Reason.{Reason}
use Rattle.ws_code.specs.declared.reason.Reason.TheVariants.{EndedInside}
use Rattle.ws_stream.specs.Elements.{element_rules}

-- So many of the bytes are read from where a body begins. The next one can't follow them, for the reason of the table;
-- or there is none, inside a unit or where a body may not end.
pub record IsRefusedAt {Place U : Type 0} (rules : Rules Place U) (bytes : List ℕ) (place : ℕ) (reason : Reason) : Type 0 where
  pub before : List ℕ
  pub so_far : Reading Place
  pub read : HasReadValues rules (reading rules.first []) before so_far
  pub at_place : place ≡ length before
  pub why : ((byte : ℕ) × (behind : List ℕ) × (bytes ≡ before ++ byte ∷ behind)
      × (IsPrefix rules so_far.place (so_far.begun ++ byte ∷ []) → ⊥)
      × (reason ≡ rules.reason so_far.place so_far.begun byte))
      ⊎ ((bytes ≡ before) × (reason ≡ EndedInside)
      × ((so_far.begun ≢ []) ⊎ (rules.may_end so_far.place ≡ false)))

-- the same of bytes in hex, and a body of the profile
abbrev pub IsHexRefused : List ℕ → ℕ → Reason → Type 0
IsHexRefused hex place reason = (bytes : List ℕ) × (decode_of hex ≡ Ok bytes)
    × IsRefusedAt element_rules bytes place reason
