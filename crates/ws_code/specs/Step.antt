-- What a byte may make of a machine: the bytes of an unfinished unit grow by it, or it ends the unit, or no unit goes
-- on with it.
use Rattle.std.specs.Prelude.{ℕ, ◌≡◌, [], ◌∷◌, ◌++◌}
use Rattle.ws_code.specs.Code.{Rules, IsSpelled, IsPrefix, IsUnfinished}
use Rattle.ws_code.specs.Run.{Reading}
use Rattle.ws_code.specs.declared.code.Push.{Push}
use Rattle.ws_code.specs.declared.code.Push.TheVariants.{More, Unit as Whole, Bad}

-- what a byte makes of a machine: its unfinished unit grows by it, or ends with it, or no unit goes on with it, for the
-- table's reason
abbrev pub IsStep : {Place U : Type 0} → Rules Place U → Reading Place → ℕ → Reading Place → Push U → Type 0
IsStep rules from b to More = (to.place ≡ from.place) × (to.begun ≡ from.begun ++ b ∷ [])
    × IsUnfinished rules from.place (from.begun ++ b ∷ [])
IsStep rules from b to (Whole unit) = IsSpelled rules from.place (from.begun ++ b ∷ []) unit
IsStep rules from b to (Bad reason) =
    (IsPrefix rules from.place (from.begun ++ b ∷ []) → ⊥) × (reason ≡ rules.reason from.place from.begun b)
