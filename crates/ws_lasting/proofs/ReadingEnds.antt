use Rattle.ws_lasting.proofs.Common as C
use C.{◌≡◌, ℕ, List, [], ◌∷◌, ◌++◌, refl, sym, ◌∙◌, subst, arith, length, length-append, append-nil, take, zero, suc}
use C.{◌≤◌, ◌<◌, ◌+◌, ◌-◌, ◌^◌, None, Some, Err, Ok, Result, inl, inr, cases_lt, IsPrefixFree, IsSpelled, Rules, More}
use C.{Whole, Reason, SpellsBytes, Begins, CanEnd, token_rules, EOR, IAC, Eor, iac_goes_on, Holds, Item, holds_more}
use C.{Act, Happen, Happening, all_came, Applied, EndStep, Refusal, At, Bring, DriverFeeds, DisplayOf, on_display}
use C.{StationStands, station_driving, PartsOn, AreQuiet, AreTakenSo, IsCounted, LastingParts, LastingStep, IsWordHeard}
use C.{StandsAt, IsWordRefused, Footing, IsTokenStep, Lasts, RecordCounts, Station, CarriedOut, false, true}
use C.{IsFrontTaken, OnErr, IsRefusalPlacedSo, IsSome, AtLasting, Push, Token, IfErr, IsEndedFor}
use Rattle.ws_lasting.proofs.Feeding.{ends_so, quiet_then}
use Rattle.ws_lasting.proofs.Holdings.{no_more, one_holds}
use Rattle.ws_lasting.proofs.ReadingOn.{fits_so, heard, judged}
use Rattle.ws_lasting.proofs.ReadingRuns.{brings, fresh, front_goes, front_refused, front_shut, held, reading}
use Rattle.ws_lasting.proofs.Runs.{run_goes_on, run_stops, skipped_iac, taken_last}

-- What comes of an EOR where a record is read: its FF brings nothing, and its last byte is heard.

eor_ends : IsSpelled token_rules tt (IAC ∷ EOR ∷ []) Eor
eor_ends = record { stands = record { is_unit = tt; may_follow = refl }; spelled = refl }

module _ {D P U H PlaceV V K R : Type 0} (rules : Rules P U) (d : DisplayOf D U H PlaceV V K R)
    (free : IsPrefixFree rules) (begins : Begins rules) (can : CanEnd rules) (law : SpellsBytes rules)
    (old : LastingParts D P) (fits : old.taken + 2 < 2 ^ 64) (between : old.begun ≡ []) (reads : old.passing ≡ None)
    (station : PartsOn D P) (used : ℕ) (step : Result (EndStep Applied R) Refusal)
    (feeds : DriverFeeds (station_driving (on_display rules d)) old.station (IAC ∷ EOR ∷ []) station
    (record { used = used; step = step }))
  where
    abbrev Both : List ℕ
    Both = IAC ∷ EOR ∷ []

    some : 0 < 2
    some = omega arith

    module _ (at : Footing H) (st : StandsAt (on_display rules d) old at) where
      none : at.begun ≡ []
      none = fresh rules d free begins can old between reads at st

      abbrev Bytes : List ℕ
      Bytes = (reading rules d free begins can old between reads at st).0.bytes

      abbrev Items : List (Item U)
      Items = (reading rules d free begins can old between reads at st).0.items

      few : length Bytes ≤ old.taken
      few = (reading rules d free begins can old between reads at st).0.few

      size : old.size ≡ length at.so_far
      size = (reading rules d free begins can old between reads at st).1

      holds : Holds rules Bytes Items at.so_far []
      holds = held rules d free begins can old between reads at st

      brought : Bring (station_driving (on_display rules d)) Bytes Items at.state (take used Both) station step
      brought = brings rules d free begins can law old Both fits some between reads station used step feeds at st

      -- after its FF
      abbrev Mid : Footing H
      Mid = record at { begun = IAC ∷ [] }

      holds_mid : Holds rules (Bytes ++ IAC ∷ []) Items Mid.so_far Mid.begun
      holds_mid = holds_more rules holds (IAC ∷ []) iac_goes_on

      lasts_mid : Lasts (on_display rules d) at (all_came (IAC ∷ [])) Mid [] []
      lasts_mid = quiet_then (on_display rules d) [] IAC at Mid Mid [] []
          (More, rw none (refl, iac_goes_on), (refl, refl, refl, refl, refl)) (refl, refl, refl)

      end_quiet : (n : ℕ) → n < 2 → AreQuiet (on_display rules d) at (take n Both)
      end_quiet zero lt = (at, (refl, refl, refl))
      end_quiet (suc zero) lt = (Mid, lasts_mid)
      end_quiet (suc (suc n)) lt = absurd (omega (arith, lt))

      skip_iac : (acts : List (Act K)) (hs : List (Happening U K)) → Happen rules Bytes Items (all_came (IAC ∷ []) ++
          acts) hs → Happen rules (Bytes ++ IAC ∷ []) Items acts hs
      skip_iac acts hs = skipped_iac rules free begins Bytes at.so_far acts hs holds

      token : (begun : List ℕ) → begun ≡ [] → IsTokenStep Mid.begun EOR begun (Whole Eor)
      token begun empty = (empty, eor_ends)

      -- its last byte is used, and isn't refused
      goes : (gave : EndStep Applied R) (counts : RecordCounts) → used ≡ 2 → step ≡ Ok gave
          → IsCounted old.counts (CarriedOut ∷ []) counts → AreTakenSo (on_display rules d) old (record old {
            station = station;
            taken = old.taken + used;
            size = 0;
            passing = None;
            counts = counts;
          }) at (take used Both) (Ok (record { reply = Station gave.reply; event = Some CarriedOut }))
      goes gave counts all ok counted =
          let on = on_display rules d in
          let mid : LastingParts D P = record old { station = station; taken = old.taken + used } in
          let new : LastingParts D P = record mid { size = 0; passing = None; counts = counts } in
          let is : take used Both ≡ (IAC ∷ []) ++ EOR ∷ [] = rw all refl in
          let n = few in
          let m = length-append Bytes (IAC ∷ []) in
          let h = heard rules d free begins (Bytes ++ IAC ∷ []) Items Mid holds_mid EOR mid reads st.works st.is_environ
          (omega (arith, n, m, all)) size (old.taken + 1) gave new
          (record { reply = Station gave.reply; event = Some CarriedOut }) (Whole Eor)
          (token mid.begun between) (run_goes_on (station_driving on) old.station station Bytes Items at.state
          (take used Both) (IAC ∷ []) EOR is skip_iac gave (rw ok at brought)) (counts, refl, counted, refl)
          (λ other e. cc) in
          subst (λ x. AreTakenSo on old new at x (Ok (record { reply = Station gave.reply; event = Some CarriedOut })))
          (sym is) (taken_last on old new at Mid (IAC ∷ []) EOR (Whole Eor) (old.taken + 1)
          (Ok (record { reply = Station gave.reply; event = Some CarriedOut })) lasts_mid (token new.begun between) h
          (omega arith) (omega (arith, all)) tt)

      -- it is refused
      stops : (place : ℕ) (reason : Reason) (new : LastingParts D P) (result : Result (LastingStep R) Refusal)
          → used ≡ 2 → step ≡ Err (At place reason) → new.begun ≡ old.begun → new.taken ≡ old.taken + used
          → IfErr result (λ why. IsEndedFor (record old { station = station }) new why)
          → ((mid : Footing H) (items : List (Item U)) (byte : ℕ) → StationStands d station.reacts items mid.state
          → IsTokenStep mid.begun byte old.begun (Whole Eor) → IsWordRefused (on_display rules d) mid (Whole Eor) reason
          → old.size ≡ length mid.so_far → old.environ ≡ mid.environ
          → IsWordHeard (on_display rules d) old.counts new mid (old.taken + 1) (Whole Eor) result)
          → AreTakenSo (on_display rules d) old new at (take used Both) result
      stops place reason new result all err same counted left then =
          let on = on_display rules d in
          let is : take used Both ≡ (IAC ∷ []) ++ EOR ∷ [] = rw all refl in
          let why = run_stops (station_driving on) old.station station Bytes Items at.state (take used Both) (IAC ∷ [])
          EOR is skip_iac (At place reason) (rw err at brought) in
          let refused = judged rules d free begins (Bytes ++ IAC ∷ []) Items Mid holds_mid EOR can law reason place
          why.0 (λ q. fits_so rules d free begins can old.station old.taken at
          (reading rules d free begins can old between reads at st).0) old.begun
          (Whole Eor) (token old.begun between) (λ other e. cc) in
          subst (λ x. AreTakenSo on old new at x result) (sym is)
          (taken_last on old new at Mid (IAC ∷ []) EOR (Whole Eor) (old.taken + 1) result lasts_mid
          (token new.begun (same ∙ between)) (then Mid Items EOR why.1 (token old.begun between) refused size
          st.is_environ) (omega arith) (omega (arith, counted, all))
          (ends_so on (record old { station = station }) new Mid Items result st.works st.is_environ why.1 left))

      -- its FF alone isn't used
      module _ (one : used ≡ 1) where
        only : take used Both ≡ [] ++ IAC ∷ []
        only = rw one refl

        skip_none : (acts : List (Act K)) (hs : List (Happening U K)) → Happen rules Bytes Items (all_came [] ++ acts)
            hs → Happen rules (Bytes ++ []) Items acts hs
        skip_none acts hs p = rw (append-nil Bytes) p

        not_one : (gave : EndStep Applied R) → step ≡ Ok gave → ⊥
        not_one gave ok = elim (rw (append-nil Bytes) at (run_goes_on (station_driving (on_display rules d)) old.station
            station Bytes Items at.state (take used Both) [] IAC only skip_none gave (rw ok at brought))) [
              | inl s ↦ elim ((rw ok at feeds.whole) s.1 s.2) [
                | inl two ↦ omega (arith, two, one)
                | inr full ↦ (let n = few in
                    let m = length-append Bytes (IAC ∷ []) in
                    let k = s.0.reached.count in omega (arith, n, m, k, full, fits))
              ]
              | inr t ↦ no_more rules free begins Items t.0 (one_holds rules free begins holds_mid t.6.reached.holds).0
            ]

        not_one_refused : (place : ℕ) (reason : Reason) → step ≡ Err (At place reason) → ⊥
        not_one_refused place reason err =
            let why = rw (append-nil Bytes) at (run_stops (station_driving (on_display rules d)) old.station station
            Bytes Items at.state (take used Both) [] IAC only skip_none (At place reason) (rw err at brought)) in
            judged rules d free begins Bytes Items (record at { begun = [] }) holds IAC can law reason place why.0
            (λ q. fits_so rules d free begins can old.station old.taken at
            (reading rules d free begins can old between reads at st).0) (IAC ∷ [])
            More (refl, iac_goes_on) (λ other e. cc)

      -- both are used
      goes_all : (gave : EndStep Applied R) (counts : RecordCounts) → 0 < used → step ≡ Ok gave
          → IsCounted old.counts (CarriedOut ∷ []) counts → AreTakenSo (on_display rules d) old (record old {
            station = station;
            taken = old.taken + used;
            size = 0;
            passing = None;
            counts = counts;
          }) at (take used Both) (Ok (record { reply = Station gave.reply; event = Some CarriedOut }))
      goes_all gave counts any ok counted = elim (cases_lt 1 used) [
        | inl more ↦ goes gave counts (omega (arith, more, feeds.within)) ok counted
        | inr less ↦ absurd (not_one (omega (arith, less, any)) gave ok)
      ]

    quiet_end : AtLasting (on_display rules d) old (λ at. (n : ℕ) → n < used
        → AreQuiet (on_display rules d) at (take n Both))
    quiet_end at st n lt = end_quiet at st n (omega (arith, lt, feeds.within))

    pub end_goes : (gave : EndStep Applied R) (counts : RecordCounts) (new : LastingParts D P) → step ≡ Ok gave
        → new ≡ record old {
          station = station;
          taken = old.taken + used;
          size = 0;
          passing = None;
          counts = counts;
        } → IsCounted old.counts (CarriedOut ∷ []) counts
        → IsFrontTaken (on_display rules d) old Both new
        (record { used = used; step = Ok (record { reply = Station gave.reply; event = Some CarriedOut }) })
    end_goes gave counts new ok same counted =
        let next : LastingParts D P =
        record old { station = station; taken = old.taken + used; size = 0; passing = None; counts = counts } in
        rw same (front_goes rules d free begins can law old Both fits some between reads station used step feeds
        quiet_end gave (record { reply = Station gave.reply; event = Some CarriedOut }) next ok refl refl refl
        (λ any at st. goes_all at st gave counts any ok counted))

    pub end_refused : (place : ℕ) (reason : Reason) (new : LastingParts D P)
        (result : Result (LastingStep R) Refusal) → step ≡ Err (At place reason)
        → (new.begun ≡ old.begun) × (new.taken ≡ old.taken + used) → OnErr result (IsSome new.ended)
        → IfErr result (λ why. IsEndedFor (record old { station = station }) new why)
        → IsRefusalPlacedSo old (old.taken + used - 1) new result
        → ((mid : Footing H) (items : List (Item U)) (byte : ℕ) (word : Push Token)
        → StationStands d station.reacts items mid.state
        → IsTokenStep mid.begun byte old.begun word → IsWordRefused (on_display rules d) mid word reason
        → (true ≡ true → word ≡ Whole Eor) → (true ≡ false → word ≡ Whole Eor → ⊥)
        → old.size ≡ length mid.so_far → old.ended ≡ None → old.environ ≡ mid.environ
        → IsWordHeard (on_display rules d) old.counts new mid (old.taken + used - 1) word result)
        → IsFrontTaken (on_display rules d) old Both new (record { used = used; step = result })
    end_refused place reason new result err same after left placed then =
        front_refused rules d free begins can law old Both fits some between reads station used step feeds quiet_end
        place reason new result err same.1 after placed (λ any at st. elim (cases_lt 1 used) [
          | inl more ↦ (let all : used ≡ 2 = omega (arith, more, feeds.within) in
              let here : old.taken + used - 1 ≡ old.taken + 1 = omega (arith, all) in
              stops at st place reason new result all err same.0 same.1 left (λ mid items b s token refused long named.
              rw here at (then mid items b (Whole Eor) s token refused (λ e. refl) (λ e. cc) long st.works named)))
          | inr less ↦ absurd (not_one_refused at st (omega (arith, less, any)) place reason err)
        ])

    pub end_shut : (why : Refusal) (new : LastingParts D P) → step ≡ Err why
        → ((place : ℕ) (reason : Reason) → why ≡ At place reason → ⊥) → new.refused_at ≡ old.refused_at
        → IsSome new.ended → IsFrontTaken (on_display rules d) old Both new (record { used = used; step = Err why })
    end_shut =
        front_shut rules d free begins can law old Both fits some between reads station used step feeds quiet_end
