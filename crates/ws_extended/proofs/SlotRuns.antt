-- A run of bytes into an empty slot: it stops at the first whole unit.
use Rattle.std.proofs.Common.{◌≡◌, ℕ, List, [], ◌∷◌, ◌++◌, Option, Some, None, refl, ap, ◌∙◌, sym}
use Rattle.ws_code.specs.Code.{Rules, IsSpelled, place_after, spelling_of}
use Rattle.ws_code.specs.Keep.{holds_last, Keeps, slot_keeper}
use Rattle.ws_code.specs.Run.{Reading, IsAt, IsRunOfValues, RunsOn, StopsAtLast, intake, with_keep}
use Rattle.ws_code.specs.declared.run.End.{End}
use Rattle.ws_code.specs.declared.run.End.TheVariants.{More, Enough, NoMemory, Bad}
use Rattle.ws_code.specs.declared.run.Standing.{Standing}
use Rattle.ws_code.proofs.CodeLaws.{no_end}
use Rattle.ws_code.proofs.Slots.{only_enough, slot_is}

pub slot_none : {U : Type 0} (slot : Option U) → holds_last slot [] → slot ≡ None
slot_none None h = refl
slot_none (Some unit) h = absurd (no_end h.0 unit [] h.1)

module _ {Place U : Type 0} (rules : Rules Place U) (reading : Reading Place) where
  abbrev pub IsSlotRun : List ℕ → Reading Place → Standing Place → Option U → End → Type 0
  IsSlotRun values to standing slot end =
      IsRunOfValues (intake rules slot_keeper) (with_keep reading None) values (with_keep to slot) standing end

  abbrev pub SlotStop : List ℕ → Type 0
  SlotStop values = StopsAtLast (intake rules slot_keeper) (with_keep reading None) values

  -- no unit is whole with these bytes
  pub runs_on : (values : List ℕ) (to : Reading Place) (slot : Option U)
      → RunsOn (intake rules slot_keeper) (with_keep reading None) values (with_keep to slot)
      → (to.place ≡ reading.place) × (to.begun ≡ reading.begun ++ values) × (slot ≡ None)
  runs_on values to slot on =
      let none : on.run.units ≡ [] = only_enough on.run.units on.on in (
        on.run.behind ∙ ap (λ (us : List U). place_after rules reading.place us) none,
        ap (λ (us : List U). spelling_of rules us ++ to.begun) (sym none) ∙ on.run.spelled,
        slot_none slot (rw (← none) (on.kept [] [] refl)),
      )

  keeps_alone : (values : List ℕ) (slot : Option U) (stop : SlotStop values) (more : List U)
      → Keeps slot_keeper stop.before.keep slot more
      → holds_last slot more
  keeps_alone values slot stop more keeps =
      let none = (runs_on stop.front stop.before.read stop.before.keep stop.on).2 in
      keeps [] [] (rw none refl)

  -- the last value completes this unit
  pub record IsWhole (values : List ℕ) (to : Reading Place) (standing : Standing Place) (unit : U) : Type 0 where
    pub stop : SlotStop values
    pub spelled : IsSpelled rules stop.before.read.place (stop.before.read.begun ++ stop.last ∷ []) unit
    pub behind : to ≡ record { place = rules.after unit; begun = [] }
    pub is_at : IsAt rules to standing

  -- so it does where the slot has one
  pub is_whole : (values : List ℕ) (to : Reading Place) (standing : Standing Place) (slot : Option U) (end : End)
      → IsSlotRun values to standing slot end → (unit : U) → slot ≡ Some unit → IsWhole values to standing unit
  is_whole values to standing slot More run unit some =
      absurd (let none = (runs_on values to slot run.0).2 in cc)
  is_whole values to standing slot Enough run unit some =
      let found = slot_is slot run.1 (keeps_alone values slot run.0 (run.1 ∷ []) run.3) in
      let same : run.1 ≡ unit = cc in
      rw (← same) (record { stop = run.0; spelled = run.2; behind = run.5; is_at = run.6 })
  is_whole values to standing slot NoMemory run unit some = absurd (let e = run.4 in cc)
  is_whole values to standing slot (Bad reason) run unit some =
      absurd (let none = slot_none slot (keeps_alone values slot run.0 [] run.3) in cc)

  -- where it has none, all values lead on, or the last one is refused
  pub not_whole : (values : List ℕ) (to : Reading Place) (standing : Standing Place) (slot : Option U)
      → slot ≡ None → IsSlotRun values to standing slot Enough → ⊥
  not_whole values to standing slot none run =
      let some = slot_is slot run.1 (keeps_alone values slot run.0 (run.1 ∷ []) run.3) in cc
