use Rattle.ws_lasting.proofs.Common as C
use C.{◌≡◌, ℕ, List, [], ◌∷◌, ◌++◌, refl, sym, ap, ◌∙◌, subst, arith, length, length-append, length-take-le, take, drop}
use C.{◌<◌, ◌+◌, ◌-◌, ◌^◌, None, Err, Ok, Option, Result, inl, inr, take-append-drop, AreBytes, IsPrefixFree, Rules}
use C.{Whole, Reason, SpellsBytes, AreBytes-front, Begins, CanEnd, Data, plain_byte, Holds, ArePlain, Item}
use C.{AllByRecursion-front, AllByRecursion-last, IAC, ◌≢◌, holds_values, Act, Happen, Happening, all_came, Applied}
use C.{EndStep, Refusal, At, Failed, Memory, Bring, DriverFeeds, DisplayOf, on_display, StationStands, station_driving}
use C.{PartsOn, last_of, none_reached, AreQuiet, AreTakenSo, LastingParts, LastingStep, IsReading, IsWordHeard}
use C.{ReadsOrPasses, StandsAt, IsWordRefused, Footing, IsTokenStep, Station, RefusedRecord, false, true, told_place}
use C.{IsFrontTaken, OnErr, IsRefusalPlacedSo, IsSome, AtLasting, Push, Token, Eor, IfErr, IsEndedFor}
use Rattle.ws_lasting.proofs.Placing.{placed_from, placed_here}
use Rattle.ws_lasting.proofs.Feeding.{ends_so, ok_so, quiet_front}
use Rattle.ws_lasting.proofs.ReadingOn.{fits_so, heard, held_so, judged}
use Rattle.ws_lasting.proofs.Runs.{fits_run, lasts_plain, run_goes_on, run_stops, skipped, taken_last}

-- What comes of a run where a record is read: of its last byte that is taken, after the others.

module _ {D P U H PlaceV V K R : Type 0} (rules : Rules P U) (d : DisplayOf D U H PlaceV V K R)
    (free : IsPrefixFree rules) (begins : Begins rules) (can : CanEnd rules) (old : LastingParts D P)
    (between : old.begun ≡ []) (reads : old.passing ≡ None) (at : Footing H)
    (st : StandsAt (on_display rules d) old at) where
  pub fresh : at.begun ≡ []
  fresh = sym st.is_begun ∙ between

  pub reading : IsReading (on_display rules d) old.station old.taken at × (old.size ≡ length at.so_far)
  reading = subst (λ (o : Option RefusedRecord). ReadsOrPasses (on_display rules d) old at o) reads st.within

  pub held : Holds rules reading.0.bytes reading.0.items at.so_far []
  held = subst (λ x. Holds rules reading.0.bytes reading.0.items at.so_far x) fresh
      (held_so rules d free begins can old.station old.taken at reading.0)

module _ {D P U H PlaceV V K R : Type 0} (rules : Rules P U) (d : DisplayOf D U H PlaceV V K R)
    (free : IsPrefixFree rules) (begins : Begins rules) (can : CanEnd rules) (law : SpellsBytes rules)
    (old : LastingParts D P) (run : List ℕ) (fits : old.taken + length run < 2 ^ 64) (some : 0 < length run)
    (between : old.begun ≡ []) (reads : old.passing ≡ None) (station : PartsOn D P) (used : ℕ)
    (step : Result (EndStep Applied R) Refusal)
    (feeds : DriverFeeds (station_driving (on_display rules d)) old.station run station
    (record { used = used; step = step }))
  where
    -- where it has heard these bytes, and the record has all of them but the last
    abbrev Heard : LastingParts D P
    Heard = record old { station = station; size = old.size + (used - 1) }

    module _ (at : Footing H) (st : StandsAt (on_display rules d) old at) where
      abbrev Come : IsReading (on_display rules d) old.station old.taken at × (old.size ≡ length at.so_far)
      Come = reading rules d free begins can old between reads at st

      none : at.begun ≡ []
      none = fresh rules d free begins can old between reads at st

      holds : Holds rules Come.0.bytes Come.0.items at.so_far []
      holds = held rules d free begins can old between reads at st

      pub brings : Bring (station_driving (on_display rules d)) Come.0.bytes Come.0.items at.state (take used run)
          station step
      brings =
          let l = Come.0.reached in
          let n = Come.0.few in
          (feeds.takes (none_reached old.station.ended old.station.live.taken (length Come.0.bytes) l.works
          l.reached.count (omega (arith, n, fits, some)))).brings Come.0.bytes Come.0.items at.state l

      -- nothing of it is refused for anything else
      never : (why : Refusal) → step ≡ Err why → ((place : ℕ) (reason : Reason) → why ≡ At place reason → ⊥) → ⊥
      never (At place reason) err other = other place reason refl
      never Failed err other = (rw err at brings).1.reached.0
      never Memory err other = elim (rw err at brings).1.reached.0 [
        | inl q ↦ (let no = q.0 in cc)
        | inr q ↦ q.so.3
      ]

      module _ (are : AreBytes run) (plain : ArePlain run) (front : List ℕ) (last : ℕ)
          (is : take used run ≡ front ++ last ∷ []) where
        bytes_so : AreBytes (front ++ last ∷ [])
        bytes_so = subst AreBytes is
            (AreBytes-front (take used run) (drop used run) (rw (← take-append-drop used run) at are))

        plain_so : ArePlain (front ++ last ∷ [])
        plain_so = subst ArePlain is (AllByRecursion-front (λ b. b ≢ IAC) (take used run) (drop used run)
            (rw (← take-append-drop used run) at plain))

        bytes_front : AreBytes front
        bytes_front = AreBytes-front front (last ∷ []) bytes_so

        plain_in_front : ArePlain front
        plain_in_front = AllByRecursion-front (λ b. b ≢ IAC) front (last ∷ []) plain_so

        skip : (acts : List (Act K)) (hs : List (Happening U K))
            → Happen rules Come.0.bytes Come.0.items (all_came front ++ acts) hs
            → Happen rules (Come.0.bytes ++ front) Come.0.items acts hs
        skip acts hs = skipped rules free begins front Come.0.bytes at.so_far acts hs holds bytes_front plain_in_front

        long : length front + 1 ≡ used
        long = (let n = ap length is in
            omega (arith, n, length-take-le used run feeds.within, length-append front (last ∷ [])))

        abbrev Mid : Footing H
        Mid = record at { so_far = at.so_far ++ front }

        held_at : Holds rules (Come.0.bytes ++ front) Come.0.items Mid.so_far Mid.begun
        held_at = subst (λ x. Holds rules (Come.0.bytes ++ front) Come.0.items Mid.so_far x) (sym none)
            (holds_values rules Come.0.bytes Come.0.items at.so_far front holds bytes_front plain_in_front)

        token_at : (begun : List ℕ) → begun ≡ [] → IsTokenStep Mid.begun last begun (Whole (Data last))
        token_at begun empty = (
          empty,
          rw none (plain_byte last (AllByRecursion-last (λ b. b < 256) front last bytes_so)
              (AllByRecursion-last (λ b. b ≢ IAC) front last plain_so)),
        )

        -- it goes on
        goes : (gave : EndStep Applied R) → step ≡ Ok gave → AreTakenSo (on_display rules d) old
            (record old { station = station; taken = old.taken + used; size = old.size + used }) at (take used run)
            (Ok (record { reply = Station gave.reply; event = None }))
        goes gave ok =
            let on = on_display rules d in
            let mid : LastingParts D P =
            record old { station = station; taken = old.taken + used; size = old.size + length front } in
            let new : LastingParts D P =
            record old { station = station; taken = old.taken + used; size = old.size + used } in
            let n = Come.0.few in
            let m = length-append Come.0.bytes front in
            let k = length-append at.so_far front in
            let h = heard rules d free begins (Come.0.bytes ++ front) Come.0.items Mid held_at last mid reads
            st.works st.is_environ (omega (arith, n, m, long)) (omega (arith, k, Come.1)) (old.taken + length front)
            gave new (record { reply = Station gave.reply; event = None })
            (Whole (Data last)) (token_at mid.begun between)
            (run_goes_on (station_driving on) old.station station Come.0.bytes Come.0.items at.state
            (take used run) front last is skip gave (rw ok at brings))
            (ap (λ (s : ℕ). record mid { size = s }) (omega (arith, long)), refl) (λ other e. cc) in
            subst (λ x. AreTakenSo on old new at x (Ok (record { reply = Station gave.reply; event = None }))) (sym is)
            (taken_last on old new at Mid front last (Whole (Data last)) (old.taken + length front)
            (Ok (record { reply = Station gave.reply; event = None }))
            (lasts_plain on front at none bytes_front plain_in_front) (token_at new.begun between) h refl
            (omega (arith, long)) tt)

        -- it is refused
        stops : (place : ℕ) (reason : Reason) (new : LastingParts D P)
            (result : Result (LastingStep R) Refusal) → step ≡ Err (At place reason) → new.begun ≡ old.begun
            → new.taken ≡ old.taken + used → IfErr result (λ why. IsEndedFor Heard new why)
            → (StationStands d station.reacts Come.0.items at.state
            → IsTokenStep at.begun last old.begun (Whole (Data last))
            → IsWordRefused (on_display rules d) Mid (Whole (Data last)) reason
            → old.size + length front ≡ length Mid.so_far
            → IsWordHeard (on_display rules d) old.counts new Mid (old.taken + length front) (Whole (Data last)) result)
            → AreTakenSo (on_display rules d) old new at (take used run) result
        stops place reason new result err same counted left then =
            let on = on_display rules d in
            let why = run_stops (station_driving on) old.station station Come.0.bytes Come.0.items at.state
            (take used run) front last is skip (At place reason) (rw err at brings) in
            let k = length-append at.so_far front in
            let token = token_at old.begun between in
            let refused = judged rules d free begins (Come.0.bytes ++ front) Come.0.items Mid held_at last can law
            reason place why.0 (λ q. fits_run rules free begins can law Come.0.bytes Come.0.items at.so_far holds
            front bytes_front plain_in_front (fits_so rules d free begins can old.station old.taken at Come.0).0
            (fits_so rules d free begins can old.station old.taken at Come.0).1 (last ∷ []) place reason q
            (let n = why.0.0 in omega (arith, n, length-append (Come.0.bytes ++ front) (last ∷ []))))
            old.begun (Whole (Data last)) token (λ other e. cc) in
            subst (λ x. AreTakenSo on old new at x result) (sym is)
            (taken_last on old new at Mid front last (Whole (Data last)) (old.taken + length front) result
            (lasts_plain on front at none bytes_front plain_in_front) (token_at new.begun (same ∙ between))
            (then why.1 token refused (omega (arith, k, Come.1))) refl (omega (arith, counted, long))
            (ends_so on Heard new Mid Come.0.items result st.works st.is_environ why.1 left))

    module _ (quiet : AtLasting (on_display rules d) old (λ at. (n : ℕ) → n < used
        → AreQuiet (on_display rules d) at (take n run))) where
      -- where it isn't refused
      pub front_goes : (gave : EndStep Applied R) (made : LastingStep R) (new : LastingParts D P) → step ≡ Ok gave
          → new.taken ≡ old.taken + used → new.passing ≡ None
          → new.refused_at ≡ told_place old.taken made.event old.refused_at
          → (0 < used → AtLasting (on_display rules d) old (λ at.
          AreTakenSo (on_display rules d) old new at (take used run) (Ok made)))
          → IsFrontTaken (on_display rules d) old run new (record { used = used; step = Ok made })
      front_goes gave made new ok counted none shown taken =
          let any : 0 < used = feeds.some some (λ e. cc (ok, e)) in
          record {
            within = feeds.within;
            some = λ ne. any;
            taken = taken any;
            first = quiet;
            placed = placed_here old new old.taken made.event reads (omega (arith, any, counted))
                (λ passes. (let never_so = rw none at passes in cc)) shown;
            counted = counted;
            after = tt;
          }

      -- where its last byte is refused
      pub front_refused : (place : ℕ) (reason : Reason) (new : LastingParts D P) (result : Result (LastingStep R)
          Refusal) → step ≡ Err (At place reason) → new.taken ≡ old.taken + used → OnErr result (IsSome new.ended)
          → IsRefusalPlacedSo old (old.taken + used - 1) new result
          → (0 < used → AtLasting (on_display rules d) old (λ at.
          AreTakenSo (on_display rules d) old new at (take used run) result))
          → IsFrontTaken (on_display rules d) old run new (record { used = used; step = result })
      front_refused place reason new result err counted after placed taken =
          let any : 0 < used = feeds.some some (λ e. cc (err, e)) in
          record {
            within = feeds.within;
            some = λ ne. any;
            taken = taken any;
            first = quiet;
            placed = placed_from old new old.taken (old.taken + used - 1) result (omega (arith, any)) placed;
            counted = ok_so result counted;
            after = after;
          }

      -- where it takes no more for anything else
      pub front_shut : (why : Refusal) (new : LastingParts D P) → step ≡ Err why
          → ((place : ℕ) (reason : Reason) → why ≡ At place reason → ⊥) → new.refused_at ≡ old.refused_at
          → IsSome new.ended → IsFrontTaken (on_display rules d) old run new (record { used = used; step = Err why })
      front_shut why new err other shown after = record {
        within = feeds.within;
        some = λ ne. feeds.some some (λ e. (
            let failed : why ≡ Failed = cc (err, e) in ne (ap (λ (r : Refusal). Err r) failed)));
        taken = λ at st. absurd (never at st why err other);
        first = quiet;
        placed = shown;
        counted = tt;
        after = after;
      }

    -- of a run of which some bytes are used, by the last of them
    module _ (are : AreBytes run) (plain : ArePlain run) where
      -- nothing is written or told before the last
      quiet_run : AtLasting (on_display rules d) old (λ at. (n : ℕ) → n < used
          → AreQuiet (on_display rules d) at (take n run))
      quiet_run at st n lt = quiet_front (on_display rules d) run at _ n
          (lasts_plain (on_display rules d) run at (none at st) are plain)

      pub run_goes : (gave : EndStep Applied R) (new : LastingParts D P) → step ≡ Ok gave
          → new ≡ record old { station = station; taken = old.taken + used; size = old.size + used }
          → IsFrontTaken (on_display rules d) old run new
          (record { used = used; step = Ok (record { reply = Station gave.reply; event = None }) })
      run_goes gave new ok same =
          let next : LastingParts D P =
          record old { station = station; taken = old.taken + used; size = old.size + used } in
          rw same (front_goes quiet_run gave (record { reply = Station gave.reply; event = None }) next ok refl reads
          refl (λ any at st. (let l = last_of run used feeds.within any in goes at st are plain l.0 l.1 l.2 gave ok)))

      pub run_refused : (place : ℕ) (reason : Reason) (new : LastingParts D P) (result : Result (LastingStep R) Refusal)
          → step ≡ Err (At place reason) → (new.begun ≡ old.begun) × (new.taken ≡ old.taken + used)
          → OnErr result (IsSome new.ended)
          → IfErr result (λ why. IsEndedFor Heard new why)
          → IsRefusalPlacedSo old (old.taken + used - 1) new result
          → ((mid : Footing H) (items : List (Item U)) (byte : ℕ) (word : Push Token)
          → StationStands d station.reacts items mid.state
          → IsTokenStep mid.begun byte old.begun word → IsWordRefused (on_display rules d) mid word reason
          → (false ≡ true → word ≡ Whole Eor) → (false ≡ false → word ≡ Whole Eor → ⊥)
          → old.size + (used - 1) ≡ length mid.so_far → old.ended ≡ None → old.environ ≡ mid.environ
          → IsWordHeard (on_display rules d) old.counts new mid (old.taken + used - 1) word result)
          → IsFrontTaken (on_display rules d) old run new (record { used = used; step = result })
      run_refused place reason new result err same after left placed then =
          front_refused quiet_run place reason new result err same.1 after placed (λ any at st. (
          let l = last_of run used feeds.within any in
          let n = long at st are plain l.0 l.1 l.2 in
          let here : old.taken + used - 1 ≡ old.taken + length l.0 = omega (arith, n) in
          stops at st are plain l.0 l.1 l.2 place reason new result err same.0 same.1 left (λ stands token refused size.
          rw here at (then (record at { so_far = at.so_far ++ l.0 }) (Come at st).0.items l.1 (Whole (Data l.1)) stands
          token refused (λ e. cc) (λ e f. cc) (omega (arith, n, size)) st.works st.is_environ))))

      pub run_shut : (why : Refusal) (new : LastingParts D P) → step ≡ Err why
          → ((place : ℕ) (reason : Reason) → why ≡ At place reason → ⊥) → new.refused_at ≡ old.refused_at
          → IsSome new.ended → IsFrontTaken (on_display rules d) old run new (record { used = used; step = Err why })
      run_shut = front_shut quiet_run
