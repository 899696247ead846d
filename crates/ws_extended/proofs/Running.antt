-- A run of bytes after another.
use Rattle.std.proofs.Common.{◌≡◌, true, ℕ, List, [], ◌∷◌, ◌++◌, inl, inr, refl, sym, ap, ◌∙◌, subst, append_assoc}
use Rattle.std.proofs.lemmas.Grind.{flat_map-append}
use Rattle.ws_code.specs.Code.{Rules, IsChain, IsPrefix, IsSpelled, IsUnfinished, place_after, spelling_of}
use Rattle.ws_code.specs.Keep.{KeepsOne, Keeper}
use Rattle.ws_code.specs.Run.{Reading, IsAt, IsRunOfValues, RunsOn, StopsAtLast, intake, with_keep}
use Rattle.ws_code.specs.declared.keep.Kept.{Kept}
use Rattle.ws_code.specs.declared.keep.Kept.TheVariants.{GoOn, Enough as EnoughKept, NoMemory as NoMemoryKept}
use Rattle.ws_code.specs.declared.reason.Reason.{Reason}
use Rattle.ws_code.specs.declared.run.End.{End}
use Rattle.ws_code.specs.declared.run.End.TheVariants.{More, Enough, NoMemory, Bad}
use Rattle.ws_code.specs.declared.run.Standing.{Standing}
use Rattle.ws_code.proofs.CodeLaws.{Begins, chain_append, place_after-append}
use Rattle.ws_code.proofs.RunLaws.{is_inside, keeps_none, runs_more, runs_none, runs_unit, stops}
use Rattle.ws_extended.specs.ExtendedRuns.{kept_end}

module _ {Place U K : Type 0} (rules : Rules Place U) (keeper : Keeper U K)
    (from mid : Reading Place) (old between : K) (xs : List ℕ)
    (a : RunsOn (intake rules keeper) (with_keep from old) xs (with_keep mid between)) where
  runs_both : (ys : List ℕ) (to : Reading Place) (new : K)
      → RunsOn (intake rules keeper) (with_keep mid between) ys (with_keep to new)
      → RunsOn (intake rules keeper) (with_keep from old) (xs ++ ys) (with_keep to new)
  runs_both ys to new b =
      let us = a.run.units in
      let vs = b.run.units in
      let chain : IsChain rules (place_after rules from.place us) vs =
      subst (λ (p : Place). IsChain rules p vs) a.run.behind b.run.chain in
      let behind : to.place ≡ place_after rules from.place (us ++ vs) =
      b.run.behind ∙ ap (λ (p : Place). place_after rules p vs) a.run.behind
      ∙ sym (place_after-append rules from.place us vs) in
      let spelled : spelling_of rules (us ++ vs) ++ to.begun ≡ from.begun ++ (xs ++ ys) =
      ap (λ (z : List ℕ). z ++ to.begun) (flat_map-append rules.spelling us vs)
      ∙ append_assoc (spelling_of rules us) (spelling_of rules vs) to.begun
      ∙ ap (λ (z : List ℕ). spelling_of rules us ++ z) b.run.spelled
      ∙ sym (append_assoc (spelling_of rules us) mid.begun ys)
      ∙ ap (λ (z : List ℕ). z ++ ys) a.run.spelled ∙ append_assoc from.begun xs ys in
      record {
        run = record {
          units = us ++ vs;
          chain = chain_append rules from.place us vs a.run.chain chain;
          behind = behind;
          unfinished = b.run.unfinished;
          spelled = spelled;
        };
        kept = λ units told h. subst (λ (zs : List U). keeper.holds new zs told) (append_assoc units us vs)
            (b.kept (units ++ us) told (a.kept units told h));
        on = elim b.on [
          | inl e ↦ elim a.on [ inl f ↦ inl (ap (λ (zs : List U). zs ++ vs) f ∙ e) | inr m ↦ inr m ]
          | inr m ↦ inr m
        ];
      }

  abbrev stops_both : (ys : List ℕ) → StopsAtLast (intake rules keeper) (with_keep mid between) ys
      → StopsAtLast (intake rules keeper) (with_keep from old) (xs ++ ys)
  stops_both ys s = record {
    front = xs ++ s.front;
    last = s.last;
    split = ap (λ (z : List ℕ). xs ++ z) s.split ∙ sym (append_assoc xs s.front (s.last ∷ []));
    before = s.before;
    on = runs_both s.front s.before.read s.before.keep s.on;
  }

  pub run_both : (ys : List ℕ) (to : Reading Place) (standing : Standing Place) (new : K) (end : End)
      → IsRunOfValues (intake rules keeper) (with_keep mid between) ys (with_keep to new) standing end
      → IsRunOfValues (intake rules keeper) (with_keep from old) (xs ++ ys) (with_keep to new) standing end
  run_both ys to standing new More run = (runs_both ys to new run.0, run.1)
  run_both ys to standing new Enough run =
      (stops_both ys run.0, run.1, run.2, run.3, run.4, run.5, run.6)
  run_both ys to standing new NoMemory run = (stops_both ys run.0, run.1, run.2, run.3, run.4)
  run_both ys to standing new (Bad reason) run = (stops_both ys run.0, run.1, run.2, run.3)

module _ {Place U K : Type 0} (rules : Rules Place U) (begins : Begins rules) (keeper : Keeper U K)
    (from to : Reading Place) (old new : K) (b : ℕ) (standing : Standing Place) where
  none_yet : IsUnfinished rules from.place from.begun
      → RunsOn (intake rules keeper) (with_keep from old) [] (with_keep from old)
  none_yet u = runs_none rules keeper from old u

  abbrev stops_here : IsUnfinished rules from.place from.begun
      → StopsAtLast (intake rules keeper) (with_keep from old) (b ∷ [])
  stops_here u = stops rules keeper from old [] (b ∷ []) from old b (none_yet u) refl

  -- a byte that completes a unit
  pub run_unit : (answer : Kept) (unit : U) → IsUnfinished rules from.place from.begun
      → IsSpelled rules from.place (from.begun ++ b ∷ []) unit → KeepsOne keeper old new unit answer
      → keeper.may_answer answer
      → to ≡ record { place = rules.after unit; begun = [] } → IsAt rules to standing
      → IsRunOfValues (intake rules keeper) (with_keep from old) (b ∷ []) (with_keep to new) standing (kept_end answer)
  run_unit GoOn unit u spelled keeps answers behind at = (
    runs_unit rules keeper from old [] (b ∷ []) from to old new b unit (none_yet u) spelled keeps answers begins refl
        behind,
    at,
  )
  run_unit EnoughKept unit u spelled keeps answers behind at =
      (stops_here u, unit, spelled, keeps, answers, behind, at)
  run_unit NoMemoryKept unit u spelled keeps answers behind at = (stops_here u, unit, spelled, keeps, answers)

  -- a byte more of one
  pub run_more : IsUnfinished rules from.place from.begun → IsUnfinished rules from.place (from.begun ++ b ∷ [])
      → to ≡ record { place = from.place; begun = from.begun ++ b ∷ [] } → new ≡ old → standing.place ≡ to.place
      → standing.is_inside ≡ true → IsRunOfValues (intake rules keeper) (with_keep from old) (b ∷ []) (with_keep to new)
      standing More
  run_more u more behind same at inside = (
    runs_more rules keeper from old [] (b ∷ []) from to old new b (none_yet u) more refl behind same,
    is_inside rules to standing from.begun b
        (subst (λ (r : Reading Place). IsUnfinished rules r.place r.begun) (sym behind) more) at inside
        (ap (λ (r : Reading Place). r.begun) behind),
  )

  -- one that is refused
  pub run_bad : IsUnfinished rules from.place from.begun → (reason : Reason)
      → (IsPrefix rules from.place (from.begun ++ b ∷ []) → ⊥) → reason ≡ rules.reason from.place from.begun b
      → new ≡ old → IsRunOfValues (intake rules keeper) (with_keep from old) (b ∷ []) (with_keep to new) standing
      (Bad reason)
  run_bad u reason bad is same = (stops_here u, bad, is, keeps_none keeper old new same)
