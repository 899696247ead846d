-- A driver, as whoever attaches it sees it: what its feeds give, by its behaviour.

use Rattle.ws_end.proofs.Common as C
use C.{◌≡◌, ◌+◌, List, [], ◌∷◌, ◌++◌, refl, ◌∙◌, ℕ, suc, ◌<◌, Some, None, IsSome, take, drop, ap, sym, arith, inl, inr}
use C.{cases_lt, length, Err, Ok, Result, take-take, length-take-le, ◌-◌, ◌^◌, Item, Option, Failed}
use Rattle.std.proofs.Math.Seq.{drop-append_seam}
use Rattle.ws_end.specs.Behaviour.{TakesSome}
use Rattle.ws_end.specs.declared.refusal.Refusal.{Refusal}
use Rattle.ws_end.specs.declared.end_step.EndFed.{EndFed}
use Rattle.ws_end.specs.declared.end_step.EndStep.{EndStep}
use Rattle.ws_end.proofs.Shuts.{none_reached}
use Rattle.ws_end.proofs.Feedings.{value_at}
use Rattle.ws_end.specs.driver.DriverBehaviour.{driver_behaviour, DriverRefuses}
use Rattle.ws_end.specs.driver.Driven.{Driven, Driving, IsReached, DriverFeeds, TakesNoMore}

module _ {R K Place U Request Event Reply : Type 0} (d : Driving R K Place U Request Event Reply)
    (old : Driven R K Place) (piece : List ℕ) (some : 0 < length piece) (new : Driven R K Place) where
  abbrev Written : Driven R K Place → Reply → List ℕ
  Written driver reply = d.does.written driver.reacts reply

  -- one to which bytes lead, and that can count one more, isn't stopped
  works : (bytes : List ℕ) (items : List (Item U)) (state : d.does.State) → IsReached d old bytes items state
      → length bytes + 1 < 2 ^ 64 → TakesNoMore old → ⊥
  works bytes items state l few = none_reached old.ended old.live.taken (length bytes) l.works l.reached.count few

  -- a byte is refused
  module _ (used : ℕ) (why : Refusal) (f : DriverFeeds d old piece new (record { used = used; step = Err why })) where
    abbrev Stops : Type 0
    Stops = (byte : ℕ) × (rest : List ℕ) × (piece ≡ take (used - 1) piece ++ byte ∷ rest)
        × DriverRefuses d old (take (used - 1) piece) byte why new

    at_last : 0 < used → Stops
    at_last any =
        let m : ℕ = used - 1 in
        let last : suc m ≡ used = omega (arith, any) in
        let v = value_at piece m (omega (arith, f.within, any)) in
        let size : length (take used piece) - 1 ≡ m = omega (arith, length-take-le used piece f.within) in
        let prefix : take (length (take used piece) - 1) (take used piece) ≡ take m piece = ap (λ (n : ℕ). take n
        (take used piece)) size ∙ take-take m used piece (omega arith) in
        let upto : take used piece ≡ take m piece ++ v.0 ∷ [] = ap (λ (n : ℕ). take n piece) (sym last) ∙ v.3 in
        let long : length (take m piece) ≡ m = length-take-le m piece (omega (arith, f.within, any)) in
        let behind : drop (length (take used piece) - 1) (take used piece) ≡ v.0 ∷ [] = ap (λ (n : ℕ). drop n
        (take used piece)) (size ∙ sym long) ∙ ap (drop (length (take m piece))) upto
        ∙ drop-append_seam (take m piece) (v.0 ∷ []) in (
          v.0,
          v.1,
          v.2,
          record {
            led = λ bytes items state l few. rw (prefix, behind) at ((f.takes (works bytes items state l
                (omega (arith, few)))).brings bytes items state l).1;
            counted = λ bytes items state l few. omega (
              arith,
              (f.takes (works bytes items state l (omega (arith, few)))).counted,
              l.reached.count,
              last,
              length-take-le used piece f.within,
              long,
            );
            seen = f.seen tt;
            shut = λ shut. absurd (omega (arith, any, (f.stopped shut).1));
          },
        )

    pub stops : Stops
    stops = elim (cases_lt 0 used) [
      | inl any ↦ at_last any
      | inr none ↦ (let v = value_at piece 0 some in
          let is : used ≡ 0 = omega (arith, none) in
          let never = λ (bytes : List ℕ) (items : List (Item U)) (state : d.does.State)
          (l : IsReached d old bytes items state) (few : length bytes + 1 < 2 ^ 64). absurd {A = ⊥} (omega (
            arith,
            is,
            length-take-le used piece f.within,
            ((f.takes (works bytes items state l few)).brings bytes items state l).0,
          )) in
          rw is (
            v.0,
            v.1,
            v.2,
            record {
              led = λ bytes items state l few. absurd (never bytes items state l (omega (arith, few)));
              counted = λ bytes items state l few. absurd (never bytes items state l (omega (arith, few)));
              seen = f.seen tt;
              shut = λ shut. (refl, (let e = (f.stopped shut).0 in cc), (f.stopped shut).2);
            },
          ))
    ]

  pub takes_some : (fed : EndFed Event Reply) → DriverFeeds d old piece new fed
      → TakesSome (driver_behaviour d) Written old piece new fed
  takes_some fed f = by fed.step refl where
    by : (step : Result (EndStep Event Reply) Refusal) → fed.step ≡ step
        → TakesSome (driver_behaviour d) Written old piece new fed
    by (Ok step) is =
        let works : TakesNoMore old → ⊥ = λ shut. cc (is, (f.stopped shut).0) in
        let t = f.takes works in
        rw is (record {
          within = f.within;
          some = f.some some (λ e. cc (is, e));
          fed = record {
            led = λ bytes items state l few. rw is at (t.brings bytes items state l);
            shut = λ shut. absurd (works shut);
          };
          first = λ n lt. record {
            led = λ bytes items state l few. rw (take-take n fed.used piece (omega (arith, lt))) at (t.first bytes items
                state l n (omega (arith, lt, length-take-le fed.used piece f.within)));
            shut = λ shut. absurd (works shut);
          };
          refused = tt;
          over = λ over. absurd (works (inl over));
          after = tt;
        })
    by (Err why) is = rw is (record {
      within = f.within;
      some = λ other. f.some some (λ e. other (let same : Err why ≡ Err Failed = sym is ∙ e in cc));
      fed = tt;
      first = tt;
      refused = stops fed.used why (rw is at f);
      over = λ over. (rw is at (f.stopped (inl over)).0, omega (arith, (f.stopped (inl over)).1), f.failed over);
      after = ended old.ended refl;
    }) where
      ended : (o : Option Refusal) → old.ended ≡ o → IsSome new.ended
      ended None none = rw ((rw is at f.after) none) refl
      ended (Some w) e = rw (f.failed (rw e refl), e) refl
