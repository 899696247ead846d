-- A body by itself: the bytes that spell its units (SC30-3533, commands and orders), with no record around it.

use Rattle.std.specs.Prelude.{◌≡◌, ℕ, List, [], ◌∷◌, ◌++◌}
use Rattle.ws_code.specs.Code.{Rules, IsWhole, IsCut, spelling_of}
use Rattle.ws_record.specs.declared.body_reader.BodyFault.{BodyFault}
use Rattle.ws_record.specs.declared.body_reader.BodyFault.TheVariants.{Bad, Memory}

-- the bytes are the spelling of these units, which are a whole body
pub record IsBody {Place U : Type 0} (rules : Rules Place U) (bytes : List ℕ) (body : List U) : Type 0 where
  pub whole : IsWhole rules body
  pub spelled : spelling_of rules body ≡ bytes

-- a front of the bytes spells units of a body, at least one
pub record HasUnitSoFar {Place U : Type 0} (rules : Rules Place U) (bytes : List ℕ) : Type 0 where
  pub front : List ℕ
  pub rest : List ℕ
  pub split : bytes ≡ front ++ rest
  pub before : List U
  pub unit : U
  pub cut : IsCut rules front (before ++ unit ∷ []) []

-- the bytes are the spelling of no body, or memory is wanting
abbrev pub IsBodyFault : {X : Type 0} → (X → Type 0) → BodyFault → Type 0
IsBodyFault {X} IsRead Bad = (x : X) → IsRead x → ⊥
IsBodyFault IsRead Memory = Unit {0}
