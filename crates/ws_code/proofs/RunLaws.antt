-- Runs of values: what one more value makes of a machine and of its keep.
use Rattle.std.proofs.Common.{true, false, ◌≡◌, ◌≢◌, ℕ, List, [], ◌∷◌, ◌++◌, inl, inr, refl, sym, ap, ◌∙◌, subst}
use Rattle.std.proofs.Common.{append_assoc}
use Rattle.std.proofs.lemmas.Grind.{flat_map-append}
use Rattle.std.proofs.lemmas.List.{append-nil}
use Rattle.ws_code.specs.Code.{Rules, Stands, IsSpelled, IsUnfinished, place_after, spelling_of}
use Rattle.ws_code.specs.Keep.{Keeper, Keeps}
use Rattle.ws_code.specs.Run.{Reading, IsAt, HasReadValues, RunsOn, StopsAtLast, intake, with_keep}
use Rattle.ws_code.specs.declared.keep.Kept.TheVariants.{GoOn}
use Rattle.ws_code.specs.declared.run.Standing.{Standing}
use Rattle.ws_code.proofs.CodeLaws.{chain_more, place_after_more}

module _ {Place U : Type 0} where
  -- a value more, which completes a unit
  pub run_unit : (rules : Rules Place U) (from : Reading Place) (values values' : List ℕ) (to to' : Reading Place)
      (b : ℕ) (unit : U) → (run : HasReadValues rules from values to) → IsSpelled rules to.place (to.begun ++ b ∷ []) unit
      → ((place : Place) → IsUnfinished rules place []) → values' ≡ values ++ b ∷ []
      → to' ≡ record { place = rules.after unit; begun = [] }
      → (more : HasReadValues rules from values' to') × (more.units ≡ run.units ++ unit ∷ [])
  run_unit rules from values values' to to' b unit run spelled begins ev et =
      let units = run.units ++ unit ∷ [] in
      let stands : Stands rules (place_after rules from.place run.units) unit =
      subst (λ p. Stands rules p unit) run.behind spelled.stands in
      let one : spelling_of rules (unit ∷ []) ≡ to.begun ++ b ∷ [] = append-nil (rules.spelling unit)
      ∙ spelled.spelled in
      let all : spelling_of rules units ≡ from.begun ++ (values ++ b ∷ []) =
      flat_map-append rules.spelling run.units (unit ∷ []) ∙ ap (λ x. spelling_of rules run.units ++ x) one
      ∙ sym (append_assoc (spelling_of rules run.units) to.begun (b ∷ [])) ∙ ap (λ x. x ++ b ∷ []) run.spelled
      ∙ append_assoc from.begun values (b ∷ []) in (
        record {
          units = units;
          chain = chain_more rules from.place run.units unit run.chain stands;
          behind = ap (λ (t : Reading Place). t.place) et ∙ sym (place_after_more rules from.place run.units unit);
          unfinished =
              subst (λ (t : Reading Place). IsUnfinished rules t.place t.begun) (sym et) (begins (rules.after unit));
          spelled = ap (λ (t : Reading Place). spelling_of rules units ++ t.begun) et
              ∙ append-nil (spelling_of rules units) ∙ all ∙ ap (λ x. from.begun ++ x) (sym ev);
        },
        refl,
      )

-- a run from where a body begins
pub from_first : {Place U : Type 0} (rules : Rules Place U) (from to : Reading Place) (values : List ℕ)
    → (run : HasReadValues rules from values to) → from.place ≡ rules.first → from.begun ≡ []
    → (first : HasReadValues rules (record { place = rules.first; begun = [] }) values to) × (first.units ≡ run.units)
from_first {Place} {U} rules from to values run ep eb = (
  record {
    units = run.units;
    chain = rw ep at run.chain;
    behind = run.behind ∙ ap (λ (p : Place). place_after rules p run.units) ep;
    unfinished = run.unfinished;
    spelled = run.spelled ∙ ap (λ x. x ++ values) eb;
  },
  refl,
)

module _ {Place U K : Type 0} where
  -- no value
  pub runs_none : (rules : Rules Place U) (keeper : Keeper U K)
      (from : Reading Place) (keep : K) → IsUnfinished rules from.place from.begun
      → RunsOn (intake rules keeper) (with_keep from keep) [] (with_keep from keep)
  runs_none rules keeper from keep u = record {
    run = record { units = []; chain = tt; behind = refl; unfinished = u; spelled = sym (append-nil from.begun) };
    kept = λ units told h. subst (λ us. keeper.holds keep us told) (sym (append-nil units)) h;
    on = inl refl;
  }

  -- a value more with which the unit is still unfinished
  pub runs_more : (rules : Rules Place U) (keeper : Keeper U K)
      (from : Reading Place) (old : K) (values values' : List ℕ) (to to' : Reading Place) (new new' : K) (b : ℕ)
      → RunsOn (intake rules keeper) (with_keep from old) values (with_keep to new)
      → IsUnfinished rules to.place (to.begun ++ b ∷ [])
      → values' ≡ values ++ b ∷ [] → to' ≡ record { place = to.place; begun = to.begun ++ b ∷ [] } → new' ≡ new
      → RunsOn (intake rules keeper) (with_keep from old) values' (with_keep to' new')
  runs_more rules keeper from old values values' to to' new new' b on u ev et ek =
      let base : RunsOn (intake rules keeper) (with_keep from old) (values ++ b ∷ [])
      (with_keep (record { place = to.place; begun = to.begun ++ b ∷ [] }) new) = record {
        run = record {
          units = on.run.units;
          chain = on.run.chain;
          behind = on.run.behind;
          unfinished = u;
          spelled = sym (append_assoc (spelling_of rules on.run.units) to.begun (b ∷ []))
              ∙ ap (λ x. x ++ b ∷ []) on.run.spelled ∙ append_assoc from.begun values (b ∷ []);
        };
        kept = on.kept;
        on = on.on;
      } in
      let at_new = subst (λ (k : K). RunsOn (intake rules keeper) (with_keep from old) (values ++ b ∷ [])
      (with_keep (record { place = to.place; begun = to.begun ++ b ∷ [] }) k)) (sym ek) base in
      let at_to = subst (λ (t : Reading Place). RunsOn (intake rules keeper) (with_keep from old) (values ++ b ∷ [])
      (with_keep t new'))
      (sym et) at_new in
      subst (λ (v : List ℕ). RunsOn (intake rules keeper) (with_keep from old) v (with_keep to' new')) (sym ev) at_to

  -- a value more, which completes a unit that is kept
  pub runs_unit : (rules : Rules Place U) (keeper : Keeper U K)
      (from : Reading Place) (old : K) (values values' : List ℕ) (to to' : Reading Place) (new new' : K) (b : ℕ)
      (unit : U) → RunsOn (intake rules keeper) (with_keep from old) values (with_keep to new)
      → IsSpelled rules to.place (to.begun ++ b ∷ []) unit → Keeps keeper new new' (unit ∷ []) → keeper.may_answer GoOn
      → ((place : Place) → IsUnfinished rules place []) → values' ≡ values ++ b ∷ []
      → to' ≡ record { place = rules.after unit; begun = [] }
      → RunsOn (intake rules keeper) (with_keep from old) values' (with_keep to' new')
  runs_unit rules keeper from old values values' to to' new new' b unit on spelled keeps may begins ev et =
      let stands : Stands rules (place_after rules from.place on.run.units) unit =
      subst (λ p. Stands rules p unit) on.run.behind spelled.stands in
      let one : spelling_of rules (unit ∷ []) ≡ to.begun ++ b ∷ [] = append-nil (rules.spelling unit)
      ∙ spelled.spelled in
      let all : spelling_of rules (on.run.units ++ unit ∷ []) ≡ from.begun ++ (values ++ b ∷ []) =
      flat_map-append rules.spelling on.run.units (unit ∷ []) ∙ ap (λ x. spelling_of rules on.run.units ++ x) one
      ∙ sym (append_assoc (spelling_of rules on.run.units) to.begun (b ∷ [])) ∙ ap (λ x. x ++ b ∷ []) on.run.spelled
      ∙ append_assoc from.begun values (b ∷ []) in
      let base : RunsOn (intake rules keeper) (with_keep from old) (values ++ b ∷ [])
      (with_keep (record { place = rules.after unit; begun = [] }) new') = record {
        run = record {
          units = on.run.units ++ unit ∷ [];
          chain = chain_more rules from.place on.run.units unit on.run.chain stands;
          behind =
              sym (place_after_more rules from.place on.run.units unit);
          unfinished = begins (rules.after unit);
          spelled =
              append-nil (spelling_of rules (on.run.units ++ unit ∷ [])) ∙ all;
        };
        kept = λ units told h. subst (λ us. keeper.holds new' us told) (append_assoc units on.run.units (unit ∷ []))
            (keeps (units ++ on.run.units) told (on.kept units told h));
        on = inr may;
      } in
      let at_to = subst (λ (t : Reading Place). RunsOn (intake rules keeper) (with_keep from old) (values ++ b ∷ [])
      (with_keep t new'))
      (sym et) base in
      subst (λ (v : List ℕ). RunsOn (intake rules keeper) (with_keep from old) v (with_keep to' new')) (sym ev) at_to

  -- a value more, at which the run stops
  abbrev pub stops : (rules : Rules Place U) (keeper : Keeper U K)
      (from : Reading Place) (old : K) (values values' : List ℕ) (to : Reading Place) (new : K) (b : ℕ)
      → RunsOn (intake rules keeper) (with_keep from old) values (with_keep to new) → values' ≡ values ++ b ∷ []
      → StopsAtLast (intake rules keeper) (with_keep from old) values'
  stops rules keeper from old values values' to new b on ev =
      record { front = values; last = b; split = ev; before = with_keep to new; on = on }

module _ {U K : Type 0} where
  -- a keep that is as it was holds what it held
  pub keeps_none : (keeper : Keeper U K) (old new : K) → new ≡ old → Keeps keeper old new []
  keeps_none keeper old new e units told h =
      subst (λ us. keeper.holds new us told) (sym (append-nil units)) (subst (λ k. keeper.holds k units told) (sym e) h)

-- a list with a value behind it isn't empty
pub has_last : (xs : List ℕ) (b : ℕ) → xs ++ b ∷ [] ≢ []
has_last [] b e = cc
has_last (x ∷ xs) b e = cc

pub same_reading : {Place : Type 0} (place place' : Place) (begun begun' : List ℕ) → place ≡ place' → begun ≡ begun'
    → ◌≡◌ {A = Reading Place} (record { place = place; begun = begun }) (record { place = place'; begun = begun' })
same_reading place place' begun begun' e f = cc

module _ {Place U : Type 0} where
  -- the standing inside a unit, and at the beginning of one
  pub is_inside : (rules : Rules Place U) (to : Reading Place) (standing : Standing Place) (begun : List ℕ) (b : ℕ)
      → IsUnfinished rules to.place to.begun → standing.place ≡ to.place → standing.is_inside ≡ true
      → to.begun ≡ begun ++ b ∷ [] → IsAt rules to standing
  is_inside rules to standing begun b u ep ei eb = record {
    unfinished = u;
    at_place = ep;
    inside = λ _ e. has_last begun b (sym eb ∙ e);
    between = λ e. let f : true ≡ false = sym ei ∙ e in cc;
  }

  pub is_between : (rules : Rules Place U) (to : Reading Place) (standing : Standing Place)
      → IsUnfinished rules to.place to.begun → standing.place ≡ to.place → standing.is_inside ≡ false → to.begun ≡ []
      → IsAt rules to standing
  is_between rules to standing u ep ei eb = record {
    unfinished = u;
    at_place = ep;
    inside = λ e. let f : false ≡ true = sym ei ∙ e in cc;
    between = λ _. eb;
  }
