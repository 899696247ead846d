use Rattle.ws_lasting.proofs.Common as C
use C.{◌≡◌, ℕ, ◌<◌, ◌≤◌, ◌⊎◌, inl, inr, refl, sym, ap, ◌∙◌, subst, arith, Option, Some, None, IsSome, Ok, Err, OnOk}
use C.{Result, Push, More, Whole, Bad, Token, Data, Eor, TelnetToken, OnDisplay, Refusal, IsFollowed, IsRefusalPlaced}
use C.{IsRefusalPlacedSo, LastingOf, LastingParts, LastingStep, told_place, RecordEvent, RefusedRecord}

-- At which byte a record is refused.

module _ {D P : Type 0} where
  module _ (old new : LastingParts D P) (here : ℕ) (told : Option RecordEvent) where
    -- where it reads: here, if one is
    pub placed_here : old.passing ≡ None → here < new.taken → (IsSome new.passing → new.passing_from ≡ here)
        → new.refused_at ≡ told_place here told old.refused_at → IsRefusalPlaced old here new told
    placed_here none more kept shown = (
      here,
      (λ some. (let e = rw none at some in cc)),
      (λ reads any. (omega arith, more)),
      kept,
      (λ some. (let e = rw none at some in cc)),
      shown,
    )

    -- where it passes over a record: where that began
    pub placed_before : IsSome old.passing → (IsSome new.passing → new.passing_from ≡ old.passing_from)
        → (told ≡ None → new.passing ≡ old.passing) → new.refused_at ≡ told_place old.passing_from told old.refused_at
        → IsRefusalPlaced old here new told
    placed_before passes kept stays shown = (
      old.passing_from,
      (λ some. refl),
      (λ none. (let e = rw none at passes in cc)),
      kept,
      (λ some. stays),
      shown,
    )

  -- at one of the bytes from here on, where it is from a later one on
  pub placed_from : {R : Type 0} (old new : LastingParts D P) (here later : ℕ)
      (result : Result (LastingStep R) Refusal) → here ≤ later → IsRefusalPlacedSo old later new result
      → IsRefusalPlacedSo old here new result
  placed_from old new here later (Ok step) le p = (
    p.0,
    p.1,
    (λ none any. (let r = p.2 none any in (omega (arith, le, r.0), r.1))),
    p.3,
    p.4,
    p.5,
  )
  placed_from old new here later (Err why) le p = p

  -- nothing comes of no byte
  pub placed_none : (now : LastingParts D P) → IsRefusalPlaced now now.taken now None
  placed_none now = (
    now.passing_from,
    (λ some. refl),
    (λ none any. elim any [
      | inl some ↦ (let e = rw none at some in cc)
      | inr some ↦ cc
    ]),
    (λ some. refl),
    (λ some untold. refl),
    refl,
  )

  -- bytes of which nothing is told, and others
  module _ (a b c : LastingParts D P) (told : Option RecordEvent) (less : a.taken ≤ b.taken) (more : b.taken ≤ c.taken)
      (p : IsRefusalPlaced a a.taken b None) (q : IsRefusalPlaced b b.taken c told) where
    goes_on : IsSome a.passing → IsSome b.passing
    goes_on some = subst (λ (o : Option RefusedRecord). IsSome o) (sym (p.4 some refl)) some

    within : a.passing ≡ None → IsSome c.passing ⊎ IsSome told → (o : Option RefusedRecord) → b.passing ≡ o
        → (a.taken ≤ q.0) × (q.0 < c.taken)
    within none any None is = (let r = q.2 is any in (omega (arith, r.0, less), r.1))
    within none any (Some why) is =
        let some : IsSome b.passing = rw is refl in
        let r = p.2 none (inl some) in
        let one = q.1 some ∙ p.3 some in (omega (arith, r.0, one), omega (arith, r.1, one, more))

    placed_then : IsRefusalPlaced a a.taken c told
    placed_then = (
      q.0,
      (λ some. q.1 (goes_on some) ∙ p.3 (goes_on some) ∙ p.1 some),
      (λ none any. within none any b.passing refl),
      q.3,
      (λ some untold. q.4 (goes_on some) untold ∙ p.4 some refl),
      q.5 ∙ ap (λ o. told_place q.0 told o) p.5,
    )

  pub placed_after : {R : Type 0} (a b c : LastingParts D P) (result : Result (LastingStep R) Refusal)
      → a.taken ≤ b.taken → OnOk result (b.taken ≤ c.taken) → IsRefusalPlaced a a.taken b None
      → IsRefusalPlacedSo b b.taken c result → IsRefusalPlacedSo a a.taken c result
  placed_after a b c (Ok step) less more p q = placed_then a b c step.event less more p q
  placed_after a b c (Err why) less more p q = q ∙ p.5

-- where it reads on, no record is refused
pub placed_on : (on : OnDisplay) (old new : LastingOf on) (here : ℕ) (word : Push Token) (reply : on.Replied)
    (step : LastingStep on.Replied) → IsFollowed on old new word reply step → old.passing ≡ None → here < new.taken
    → IsRefusalPlaced old here new step.event
placed_on on old new here word reply step f none more = go word f where
  still : new.passing ≡ None → new.refused_at ≡ old.refused_at
      → told_place here step.event old.refused_at ≡ old.refused_at → IsRefusalPlaced old here new step.event
  still reads same untold =
      placed_here old new here step.event none more (λ some. (let e = rw reads at some in cc)) (same ∙ sym untold)

  silent : step.event ≡ None → told_place here step.event old.refused_at ≡ old.refused_at
  silent is = ap (λ o. told_place here o old.refused_at) is

  go : (word : Push Token) → IsFollowed on old new word reply step → IsRefusalPlaced old here new step.event
  go More f = still (ap (λ (z : LastingOf on). z.passing) f.0 ∙ none) (ap (λ (z : LastingOf on). z.refused_at) f.0)
      (silent (ap (λ (z : LastingStep on.Replied). z.event) f.1))
  go (Whole (Data b)) f = still (ap (λ (z : LastingOf on). z.passing) f.0 ∙ none)
      (ap (λ (z : LastingOf on). z.refused_at) f.0) (silent (ap (λ (z : LastingStep on.Replied). z.event) f.1))
  go (Whole Eor) f = still (ap (λ (z : LastingOf on). z.passing) f.1) (ap (λ (z : LastingOf on). z.refused_at) f.1)
      (ap (λ (z : LastingStep on.Replied). told_place here z.event old.refused_at) f.3)
  go (Whole (TelnetToken t)) f = still (ap (λ (z : LastingOf on). z.passing) f.0.same ∙ none)
      (ap (λ (z : LastingOf on). z.refused_at) f.0.same) (silent f.1)
  go (Bad reason) f = still (ap (λ (z : LastingOf on). z.passing) f.0 ∙ none)
      (ap (λ (z : LastingOf on). z.refused_at) f.0) (silent (ap (λ (z : LastingStep on.Replied). z.event) f.1))
