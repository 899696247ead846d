-- What a keep makes of a unit: a list of all, a slot for the last, or nothing.

use Rattle.std.specs.Prelude.{◌≡◌, ℕ, List, [], ◌∷◌, ◌++◌, Option, Some, None}
use Rattle.ws_code.specs.declared.keep.Kept.{Kept}
use Rattle.ws_code.specs.declared.keep.Kept.TheVariants.{GoOn, Enough, NoMemory}

-- what a keep does: which units it holds, and what it may answer to one
pub record Keeper (U K : Type 0) : Type 1 where
  -- it holds these units, and was told of these values
  pub holds : K → List U → List ℕ → Type 0
  -- it may answer so
  pub may_answer : Kept → Type 0

module _ {U K : Type 0} where
  -- whatever the one keep held, the other holds with these units after it
  abbrev pub Keeps : Keeper U K → K → K → List U → Type 0
  Keeps keeper old new more =
      (units : List U) (told : List ℕ) → keeper.holds old units told → keeper.holds new (units ++ more) told

  -- what is kept of a unit, by the answer to it: the keep holds it after what it held, or where memory is wanting only
  -- that
  abbrev pub KeepsOne : Keeper U K → K → K → U → Kept → Type 0
  KeepsOne keeper old new unit GoOn = Keeps keeper old new (unit ∷ [])
  KeepsOne keeper old new unit Enough = Keeps keeper old new (unit ∷ [])
  KeepsOne keeper old new unit NoMemory = Keeps keeper old new []

-- the slot has the last of the units
abbrev pub holds_last : {U : Type 0} → Option U → List U → Type 0
holds_last None units = units ≡ []
holds_last {U} (Some unit) units = (before : List U) × (units ≡ before ++ unit ∷ [])

-- what is seen as a list keeps all units
abbrev pub list_keeper : {U K : Type 0} → (K → List U) → Keeper U K
list_keeper list_of =
    record { holds = λ keep units told. list_of keep ≡ units; may_answer = λ answer. answer ≡ Enough → ⊥ }

-- a slot keeps the last unit, and has enough with each
abbrev pub slot_keeper : {U : Type 0} → Keeper U (Option U)
slot_keeper = record { holds = λ slot units told. holds_last slot units; may_answer = λ answer. answer ≡ Enough }

-- nothing is kept, and no memory wanted
abbrev pub nothing_keeper : {U K : Type 0} → Keeper U K
nothing_keeper = record { holds = λ keep units told. Unit {0}; may_answer = λ answer. answer ≡ GoOn }
