use Rattle.ws_lasting.proofs.Common as C
use C.{◌≡◌, ℕ, List, [], ◌∷◌, ◌++◌, refl, sym, ap, ◌∙◌, subst, inl, inr, append-nil, append_assoc, arith, length}
use C.{length-append, take, take_all, get_or, drop, ◌≤◌, ◌<◌, ◌+◌, ◌-◌, Err, Ok, None, Some, IsSome, Option, Result}
use C.{take_at, drop-append_seam, AreBytes, IsPrefixFree, Rules, Push, Whole, Reason, SpellsBytes, front_bytes, Begins}
use C.{CanEnd, AreBytes-front, AllByRecursion-front, AllByRecursion-last, IAC, ◌≢◌, Token, Data, plain_byte}
use C.{iac_goes_on, Holds, BeginsList, CanBeFramed, IsRefused, ArePlain, Item, holds_data, holds_more, holds_values}
use C.{bytes_append, bytes_came, came_append, Act, Came, Happen, Happening, IsTrace, all_came, as_list, bytes_of, doing}
use C.{items_of, protocol_of, Bring, Driven, Driving, GoesOnAt, IsReached, IsWhy, transitions_of, trace_none, EndStep}
use C.{Refusal, At, Failed, Memory, DisplayOf, OnDisplay, on_display, PartsOn, ReachedOn, AreTakenSo, LeadsOnFrom}
use C.{IsCounted, LastingOf, LastingParts, LastingStep, IsWordHeard, ReadsOrPasses, StandsAt, Footing, FootingOn}
use C.{IsTokenStep, Lasts, counted_none, RefusedRecord, EndsAt, IfErr}
use Rattle.ws_lasting.proofs.Pushing.{came_one}
use Rattle.ws_lasting.proofs.Passing.{spoilt_more, stands_passing}
use Rattle.ws_lasting.proofs.Feeding.{lasts_more, quiet_then}
use Rattle.ws_lasting.proofs.Holdings.{fits_before, no_more, one_holds}
use Rattle.ws_lasting.proofs.TokenSteps.{at_end}

-- What comes of a run of data bytes, none of which is FF.

module _ (on : OnDisplay) where
  -- each is one byte more of the open record
  pub lasts_plain : (v : List ℕ) (at : FootingOn on) → at.begun ≡ [] → AreBytes v → ArePlain v
      → Lasts on at (all_came v) (record at { so_far = at.so_far ++ v }) [] []
  lasts_plain [] at fresh are plain =
      (ap (λ x. (record at { so_far = x })) (append-nil at.so_far), refl, refl)
  lasts_plain (b ∷ v) at fresh are plain =
      let mid : FootingOn on = record at { so_far = at.so_far ++ b ∷ [] } in
      quiet_then on (all_came v) b at mid _ [] []
      (Whole (Data b), (fresh, rw fresh (plain_byte b are.0 plain.0)), (refl, refl, refl, refl, refl))
      (rw (append_assoc at.so_far (b ∷ []) v) at (lasts_plain v mid fresh are.1 plain.1))

  -- what comes of a byte after others at which nothing is written or told
  pub taken_last : (old new : LastingOf on) (at mid : FootingOn on) (front : List ℕ) (byte : ℕ) (word : Push Token)
      (here : ℕ) (result : Result (LastingStep on.Replied) Refusal) → Lasts on at (all_came front) mid [] []
      → IsTokenStep mid.begun byte new.begun word → IsWordHeard on old.counts new mid here word result
      → here ≡ old.taken + length front → new.taken ≡ here + 1 → IfErr result (λ why. EndsAt on old.counts new mid why)
      → AreTakenSo on old new at (front ++ byte ∷ []) result
  taken_last old new at mid front byte word here (Ok step) l t h place counted left = (
    h.0,
    lasts_more on front byte at mid h.0 _ _ l
        (word, subst (λ x. IsTokenStep mid.begun byte x word) h.2.is_begun t, h.1),
    h.2,
    h.3,
    (let n = ap length (bytes_came on.Pressed (front ++ byte ∷ [])) in
        omega (arith, n, place, counted, length-append front (byte ∷ []))),
  )
  taken_last old new at mid front byte word here (Err (At place reason)) l t h is counted left = (
    front,
    byte,
    refl,
    (mid, l, h.0 ∙ is, (word, new.begun, t, h.1), omega (arith, counted, h.0), left),
  )
  taken_last old new at mid front byte word here (Err Failed) l t h is counted left = absurd h
  taken_last old new at mid front byte word here (Err Memory) l t h is counted left = absurd h

-- what a slice has is bytes
pub run_bytes : (run : List ℕ) → ((i : ℕ) → get_or run i 0 < 256) → AreBytes run
run_bytes run fit = subst AreBytes (take_all (length run) run (omega arith)) (front_bytes run (length run) fit)

-- bytes by the last of them
pub at_last : (came front : List ℕ) (last : ℕ) → came ≡ front ++ last ∷ []
    → (take (length came - 1) came ≡ front) × (drop (length came - 1) came ≡ last ∷ [])
at_last came front last is =
    let n : length (front ++ last ∷ []) - 1 ≡ length front = omega (arith, length-append front (last ∷ [])) in
    rw (is, n) (take_at front (last ∷ []) (length front) refl, drop-append_seam front (last ∷ []))

module _ {Place U : Type 0} (rules : Rules Place U) (free : IsPrefixFree rules) (begins : Begins rules) where
  -- nothing happens at them
  pub skipped : {Request : Type 0} {items : List (Item U)} (v : List ℕ) (bytes so_far : List ℕ) (acts : List (Act
      Request)) (hs : List (Happening U Request)) → Holds rules bytes items so_far [] → AreBytes v → ArePlain v
      → Happen rules bytes items (all_came v ++ acts) hs → Happen rules (bytes ++ v) items acts hs
  skipped [] bytes so_far acts hs h are plain p = rw (append-nil bytes) p
  skipped (b ∷ v) bytes so_far acts hs h are plain (inl p) =
      let one = holds_data rules h b b (plain_byte b are.0 plain.0) in
      rw (append_assoc bytes (b ∷ []) v) at
      (skipped v (bytes ++ b ∷ []) (so_far ++ b ∷ []) acts hs one are.1 plain.1 p.1)
  skipped {items = items} (b ∷ v) bytes so_far acts hs h are plain (inr p) =
      let one = holds_data rules h b b (plain_byte b are.0 plain.0) in
      absurd (no_more rules free begins items p.0 (one_holds rules free begins one p.2.2).0)

  -- nor at an FF
  pub skipped_iac : {Request : Type 0} {items : List (Item U)} (bytes so_far : List ℕ) (acts : List (Act Request))
      (hs : List (Happening U Request)) → Holds rules bytes items so_far []
      → Happen rules bytes items (all_came (IAC ∷ []) ++ acts) hs → Happen rules (bytes ++ IAC ∷ []) items acts hs
  skipped_iac bytes so_far acts hs h (inl p) = p.1
  skipped_iac {items = items} bytes so_far acts hs h (inr p) = absurd (no_more rules free begins items p.0
      (one_holds rules free begins (holds_more rules h (IAC ∷ []) iac_goes_on) p.2.2).0)

module _ {R K Place U Deed Event Reply : Type 0} (d : Driving R K Place U Deed Event Reply) (old new : Driven R K Place)
    (bytes : List ℕ) (items : List (Item U)) (state : d.does.State) (came front : List ℕ) (last : ℕ)
    (is : came ≡ front ++ last ∷ []) (skip : (acts : List (Act Deed)) (hs : List (Happening U Deed))
    → Happen d.rules bytes items (all_came front ++ acts) hs → Happen d.rules (bytes ++ front) items acts hs)
  where
    -- so what comes of others after them comes from where they lead
    trace_after : (Then : List ℕ → List (Item U) → d.does.State → Type 0) (acts : List (Act Deed)) (written : List ℕ)
        (events : List Event) → IsTrace (protocol_of d.rules d.does.out (transitions_of d)) Then bytes items state
        (all_came front ++ acts) written events
        → IsTrace (protocol_of d.rules d.does.out (transitions_of d)) Then (bytes ++ front) items state acts written
        events
    trace_after Then acts written events g = record {
      happened = g.happened;
      happen = skip acts g.happened g.happen;
      taken = g.taken;
      wrote = g.wrote;
      tells = g.tells;
      reached = subst (λ x. Then x (items ++ items_of g.happened) (doing (transitions_of d) state g.happened).state)
          (ap (λ x. bytes ++ x) (bytes_append (all_came front) acts
          ∙ ap (λ x. x ++ bytes_of acts) (bytes_came Deed front)) ∙ sym (append_assoc bytes front (bytes_of acts)))
          g.reached;
    }

    -- what brings this brings it with its last byte
    pub run_goes_on : (step : EndStep Event Reply) → Bring d bytes items state came new (Ok step)
        → GoesOnAt d new ((bytes ++ front) ++ last ∷ []) items state step
    run_goes_on step g = came_one d old new last (bytes ++ front) items state step
        (trace_after (IsReached d new) (Came last ∷ []) (d.does.written new.reacts step.reply) (as_list step.event)
        (rw (is, came_append front (last ∷ [])) at g))

    pub run_stops : (why : Refusal) → Bring d bytes items state came new (Err why)
        → IsWhy d why ((bytes ++ front) ++ last ∷ []) items state × d.does.stands new.reacts items state
    run_stops why g =
        let at = at_last came front last is in
        rw at.1 at (trace_none (trace_after (λ bytes' items' state'. IsWhy d why
        (bytes' ++ drop (length came - 1) came) items' state' × d.does.stands new.reacts items' state') [] [] []
        (rw (append-nil (all_came {Request = Deed} front)) (rw at.0 at g.1))))

-- the record so far fits where bytes after it are refused
pub fits_run : {Place U : Type 0} (rules : Rules Place U) (free : IsPrefixFree rules) (begins : Begins rules)
    (can : CanEnd rules) (law : SpellsBytes rules) (bytes : List ℕ) (items : List (Item U)) (so_far : List ℕ)
    → Holds rules bytes items so_far [] → (front : List ℕ) → AreBytes front → ArePlain front → CanBeFramed so_far
    → BeginsList rules (drop 10 so_far) → (more : List ℕ) (place : ℕ) (reason : Reason)
    → IsRefused rules ((bytes ++ front) ++ more) place reason → length (bytes ++ front) ≤ place
    → CanBeFramed (so_far ++ front) × BeginsList rules (drop 10 (so_far ++ front))
fits_run rules free begins can law bytes items so_far h front are plain framed body more place reason r after =
    elim (at_end front) [
      | inl none ↦ rw (none, append-nil so_far) (framed, body)
      | inr some ↦ (let u = some.0 in
          let c = some.1 in
          let are' : AreBytes (u ++ c ∷ []) = rw some.2 at are in
          let plain' : ArePlain (u ++ c ∷ []) = rw some.2 at plain in
          let k = holds_values rules bytes items so_far u h (AreBytes-front u (c ∷ []) are')
          (AllByRecursion-front _ u (c ∷ []) plain') in
          let two = append_assoc bytes u (c ∷ []) in
          rw (some.2, ← append_assoc so_far u (c ∷ [])) (fits_before rules free begins can law k c c
          (plain_byte c (AllByRecursion-last (λ b. b < 256) u c are') (AllByRecursion-last (λ b. b ≢ IAC) u c plain'))
          more place reason (rw (some.2, ← two) at r) (rw (some.2, ← two) at after)))
    ]

-- where a record is passed over nothing else comes of them
pub run_passed : {D P U H PlaceV V K R : Type 0} (rules : Rules P U) (d : DisplayOf D U H PlaceV V K R)
    (old new : LastingParts D P) (at : Footing H) (run : List ℕ) → AreBytes run → ArePlain run → old.begun ≡ []
    → new ≡ record old { taken = old.taken + length run } → IsSome old.passing
    → StandsAt (on_display rules d) old at → LeadsOnFrom (on_display rules d) old new at (all_came run) [] []
run_passed {D} {P} {H = H} {K = K} rules d old new at run are plain between same passes st =
    by old.passing refl st.within where
      on : OnDisplay
      on = on_display rules d

      by : (o : Option RefusedRecord) → old.passing ≡ o → ReadsOrPasses on old at o
          → LeadsOnFrom on old new at (all_came run) [] []
      by None is within = (let never = rw is at passes in cc)
      by (Some why) is p = (
        record at { so_far = at.so_far ++ run },
        lasts_plain on run at (sym st.is_begun ∙ between) are plain,
        stands_passing rules d new _ (ap (λ (z : LastingParts D P). z.ended) same ∙ st.works)
            (ap (λ (z : LastingParts D P). z.begun) same ∙ st.is_begun)
            (ap (λ (z : LastingParts D P). z.environ) same ∙ st.is_environ) why
            (ap (λ (z : LastingParts D P). z.passing) same ∙ is) (record {
              reached = subst (λ (z : PartsOn D P). ReachedOn on z [] [] at.state)
                  (sym (ap (λ (z : LastingParts D P). z.station) same)) p.reached;
              of_record = p.of_record;
              spoilt = spoilt_more rules d at.so_far run why p.spoilt;
            }),
        subst (λ (z : LastingParts D P). IsCounted old.counts [] z.counts) (sym same) (counted_none old.counts),
        (let t = ap (λ (z : LastingParts D P). z.taken) same in
            let n = ap length (bytes_came K run) in omega (arith, t, n)),
      )
