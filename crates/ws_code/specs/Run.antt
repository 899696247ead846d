-- What a run of values makes of a machine that reads one unit after another, and of what keeps the units.

use Rattle.std.specs.Prelude.{◌≡◌, ◌≢◌, ℕ, true, false, List, [], ◌∷◌, ◌++◌, ◌⊎◌}
use Rattle.ws_code.specs.Code.{Rules, IsChain, IsSpelled, IsPrefix, IsUnfinished, place_after, spelling_of}
use Rattle.ws_code.specs.Keep.{Keeper, Keeps}
use Rattle.ws_code.specs.declared.keep.Kept.TheVariants as answer
use Rattle.ws_code.specs.declared.run.Standing.{Standing}
use Rattle.ws_code.specs.declared.run.End.{End}
use Rattle.ws_code.specs.declared.run.End.TheVariants.{More, Enough, NoMemory, Bad}

-- Where the unit stands that is read, and its spelling so far.
pub record Reading (Place : Type 0) : Type 0 where
  pub place : Place
  pub begun : List ℕ

-- the reading at this place, with this spelling so far
abbrev pub reading : {Place : Type 0} → Place → List ℕ → Reading Place
reading place begun = record { place = place; begun = begun }

-- what is read, and the keep that its units go to
pub record WithKeep (R K : Type 0) : Type 0 where
  pub read : R
  pub keep : K

-- what is read, beside its keep
abbrev pub with_keep : {R K : Type 0} → R → K → WithKeep R K
with_keep read keep = record { read = read; keep = keep }

-- an intake of units: the rules that they are read by, and what the keep does that they go to
pub record Intake (Place U K : Type 0) : Type 1 where
  pub rules : Rules Place U
  pub keeper : Keeper U K

-- the intake of units by these rules, into a keep that does so
abbrev pub intake : {Place U K : Type 0} → Rules Place U → Keeper U K → Intake Place U K
intake rules keeper = record { rules = rules; keeper = keeper }

module _ {Place U : Type 0} where
  -- the standing tells where the unit stands that is read, and whether some of it was read
  pub record IsAt (rules : Rules Place U) (reading : Reading Place) (standing : Standing Place) : Type 0 where
    pub unfinished : IsUnfinished rules reading.place reading.begun
    pub at_place : standing.place ≡ reading.place
    pub inside : standing.is_inside ≡ true → reading.begun ≢ []
    pub between : standing.is_inside ≡ false → reading.begun ≡ []

  -- from the one reading the values complete these units, and lead to the other reading
  pub record HasReadValues (rules : Rules Place U) (from : Reading Place) (values : List ℕ) (to : Reading Place)
      : Type 0 where
    pub units : List U
    pub chain : IsChain rules from.place units
    pub behind : to.place ≡ place_after rules from.place units
    pub unfinished : IsUnfinished rules to.place to.begun
    pub spelled : spelling_of rules units ++ to.begun ≡ from.begun ++ values

  -- from the one reading the values lead to the other, and each unit is kept; the keep goes on with each
  pub record RunsOn {K : Type 0} (intake : Intake Place U K) (from : WithKeep (Reading Place) K) (values : List ℕ)
      (to : WithKeep (Reading Place) K) : Type 0 where
    pub run : HasReadValues intake.rules from.read values to.read
    pub kept : Keeps intake.keeper from.keep to.keep run.units
    pub on : (run.units ≡ []) ⊎ intake.keeper.may_answer answer.GoOn

  -- the run stops at the last of the values; those before it lead on, and their units are kept
  pub record StopsAtLast {K : Type 0} (intake : Intake Place U K) (from : WithKeep (Reading Place) K)
      (values : List ℕ) : Type 0 where
    pub front : List ℕ
    pub last : ℕ
    pub split : values ≡ front ++ last ∷ []
    pub before : WithKeep (Reading Place) K
    pub on : RunsOn intake from front before

  -- What the values taken make of the machine and of the keep: all lead on; or the last one completes a unit, which is
  -- kept or not; or it is refused where it stands.
  abbrev pub IsRunOfValues : {K : Type 0} → Intake Place U K → WithKeep (Reading Place) K → List ℕ
      → WithKeep (Reading Place) K → Standing Place → End → Type 0
  IsRunOfValues intake from values to standing More =
      RunsOn intake from values to × IsAt intake.rules to.read standing
  IsRunOfValues intake from values to standing Enough =
      (stop : StopsAtLast intake from values) × (unit : U)
      × IsSpelled intake.rules stop.before.read.place (stop.before.read.begun ++ stop.last ∷ []) unit
      × Keeps intake.keeper stop.before.keep to.keep (unit ∷ []) × intake.keeper.may_answer answer.Enough
      × (to.read ≡ record { place = intake.rules.after unit; begun = [] }) × IsAt intake.rules to.read standing
  IsRunOfValues intake from values to standing NoMemory =
      (stop : StopsAtLast intake from values) × (unit : U)
      × IsSpelled intake.rules stop.before.read.place (stop.before.read.begun ++ stop.last ∷ []) unit
      × Keeps intake.keeper stop.before.keep to.keep [] × intake.keeper.may_answer answer.NoMemory
  IsRunOfValues intake from values to standing (Bad reason) =
      (stop : StopsAtLast intake from values)
      × (IsPrefix intake.rules stop.before.read.place (stop.before.read.begun ++ stop.last ∷ []) → ⊥)
      × (reason ≡ intake.rules.reason stop.before.read.place stop.before.read.begun stop.last)
      × Keeps intake.keeper stop.before.keep to.keep []
