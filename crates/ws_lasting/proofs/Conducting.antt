use Rattle.ws_lasting.proofs.Common as C
use C.{◌≡◌, ℕ, List, [], ◌∷◌, ◌++◌, refl, sym, ap, ◌∙◌, inl, inr, arith, length, take, suc, ◌≤◌, ◌<◌, ◌+◌, ◌-◌, ◌^◌, Ok}
use C.{Err, Result, IsSome, cases_lt, OnErr, no_end, same_last, TakesSome, IsShut, EndFed, Refusal, Failed, OnDisplay}
use C.{value_at, AreQuiet, AreTakenSo, LastingRefuses, lasting_behaviour, AtLasting, LastingOf, LastingStep}
use C.{bytes_written, LastingReply, RecordEvent, StaysShut}

-- What a piece gives a station that no record ends is what one gives an end.

module _ (on : OnDisplay) (old : LastingOf on) (piece : List ℕ) (some : 0 < length piece) (new : LastingOf on) where
  abbrev Fails : Result (LastingStep on.Replied) Refusal → Type 0
  Fails result = result ≡ Err Failed

  -- a byte ends the session
  module _ (used : ℕ) (why : Refusal) (within : used ≤ length piece)
      (taken : AtLasting on old (λ at. old.taken + 1 < 2 ^ 64 → AreTakenSo on old new at (take used piece) (Err why)))
      (stopped : IsShut old.ended old.taken → Fails (Err why) × (used ≡ 0) × StaysShut old new)
    where
      abbrev Stops : Type 0
      Stops = (byte : ℕ) × (rest : List ℕ) × (piece ≡ take (used - 1) piece ++ byte ∷ rest)
          × LastingRefuses on old (take (used - 1) piece) byte why new

      at_last : 0 < used → Stops
      at_last any =
          let m : ℕ = used - 1 in
          let last : suc m ≡ used = omega (arith, any) in
          let v = value_at piece m (omega (arith, within, any)) in
          let upto : take used piece ≡ take m piece ++ v.0 ∷ [] = ap (λ (n : ℕ). take n piece) (sym last) ∙ v.3 in (
            v.0,
            v.1,
            v.2,
            record {
              led = λ at st few.
                  let t = taken at st (omega (arith, few)) in
                  let same = same_last (take m piece) t.0 v.0 t.1 (sym upto ∙ t.2) in
                  rw (same.0, same.1) t.3;
              shut = λ shut. absurd (omega (arith, any, (stopped shut).1));
            },
          )

      pub stops : Stops
      stops = elim (cases_lt 0 used) [
        | inl any ↦ at_last any
        | inr none ↦ (let v = value_at piece 0 some in
            let is : used ≡ 0 = omega (arith, none) in
            let front : take used piece ≡ [] = ap (λ (n : ℕ). take n piece) is in
            rw is (
              v.0,
              v.1,
              v.2,
              record {
                led = λ at st few. (let t = taken at st (omega (arith, few)) in
                    absurd (no_end t.0 t.1 [] (sym front ∙ t.2)));
                shut = λ shut. (refl, (let e = (stopped shut).0 in cc), (stopped shut).2);
              },
            ))
      ]

  pub takes_some : (fed : EndFed RecordEvent (LastingReply on.Replied)) → fed.used ≤ length piece
      → (0 < length piece → (fed.step ≡ Err Failed → ⊥) → 0 < fed.used)
      → AtLasting on old (λ at. old.taken + 1 < 2 ^ 64 → AreTakenSo on old new at (take fed.used piece) fed.step)
      → AtLasting on old (λ at. (n : ℕ) → n < fed.used → AreQuiet on at (take n piece))
      → OnErr fed.step (IsSome new.ended)
      → (IsShut old.ended old.taken → (fed.step ≡ Err Failed) × (fed.used ≡ 0) × StaysShut old new)
      → (IsSome old.ended → new ≡ old)
      → TakesSome (lasting_behaviour on) (bytes_written on) old piece new fed
  takes_some fed within any taken first after stopped failed = by fed.step refl where
    by : (step : Result (LastingStep on.Replied) Refusal) → fed.step ≡ step
        → TakesSome (lasting_behaviour on) (bytes_written on) old piece new fed
    by (Ok step) is =
        let works : IsShut old.ended old.taken → ⊥ = λ shut. cc (is, (stopped shut).0) in
        rw is (record {
          within = within;
          some = any some (λ e. cc (is, e));
          fed = record {
            led = λ at st few. rw is at (taken at st (omega (arith, few)));
            shut = λ shut. absurd (works shut);
          };
          first = λ n lt. record { led = λ at st few. first at st n lt; shut = λ shut. absurd (works shut) };
          refused = tt;
          over = λ over. absurd (works (inl over));
          after = tt;
        })
    by (Err why) is = rw is (record {
      within = within;
      some = λ ne. any some (λ e. (let same : why ≡ Failed = cc (is, e) in ne same));
      fed = tt;
      first = tt;
      refused = stops fed.used why within (rw is at taken) (rw is at stopped);
      over = λ over. (rw is at (stopped (inl over)).0, (stopped (inl over)).1, failed over);
      after = rw is at after;
    })
