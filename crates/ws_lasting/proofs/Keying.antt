use Rattle.ws_lasting.proofs.Common as C
use C.{◌≡◌, ℕ, List, [], ◌∷◌, ◌++◌, append-nil, subst, refl, sym, ap, ◌∙◌, length, arith, ◌+◌, ◌<◌, ◌^◌, Option, Some}
use C.{None, Ok, Err, Result, Rules, IsPrefixFree, Begins, IfOk, OnErr, record_spelling, header, PutGet, Item, Answer}
use C.{Read, Attention, SystemRequest, Did, IsShut, HasDoneKey, KeyFault, KeyFailed, SpellsOn, sent_by, DisplayOf}
use C.{EndStateOn, RefusesKey, on_display, key_on, ReachedOn, IsKeyedOn, AtStationOn, LastingTraces, LeadsOnFrom}
use C.{lasting_key_judged, IsCounted, AtLasting, LastingParts, ReadsOrPasses, StandsAt, IsKeyHeard, counted_none}
use C.{Footing, RefusedRecord}
use Rattle.ws_lasting.proofs.Holdings.{one_holds}
use Rattle.ws_lasting.proofs.Passing.{stands_passing, stands_reading}

-- What comes of a key.

module _ {D P U H PlaceV V K R : Type 0} (rules : Rules P U) (d : DisplayOf D U H PlaceV V K R)
    (old new : LastingParts D P) (key : K) where
  -- one that is taken isn't refused
  key_taken : (at : Footing H) (answer : Option Answer) → IsKeyHeard (on_display rules d) old new at key (Ok answer)
      → (fault : KeyFault) → key_on d at.state key ≡ RefusesKey fault → ⊥
  key_taken at None k fault e = cc (k.1, e)
  key_taken at (Some (Read body)) k fault e = cc (k.3, e)
  key_taken at (Some Attention) k fault e = cc (k.0, e)
  key_taken at (Some SystemRequest) k fault e = cc (k.0, e)

  -- one that is refused leads nowhere
  key_idle : (at : Footing H) (fault : KeyFault) → IsKeyHeard (on_display rules d) old new at key (Err fault)
      → StandsAt (on_display rules d) old at → LeadsOnFrom (on_display rules d) old new at (Did key ∷ []) [] []
  key_idle at fault k st = rw k.1 (at, rw k.0 ([], (refl, refl, refl), refl), st, counted_none old.counts, omega arith)

  pub key_judges : (result : Result (Option Answer) KeyFault)
      → AtLasting (on_display rules d) old (λ at. old.taken + 1 < 2 ^ 64
      → IsKeyHeard (on_display rules d) old new at key result)
      → IfOk result (λ answer. LastingTraces (on_display rules d) old (Did key ∷ []) (sent_by answer) [] new)
      → (IsShut old.ended old.taken → result ≡ Err KeyFailed) → OnErr result (new ≡ old)
      → HasDoneKey (lasting_key_judged (on_display rules d) key) old new result
  key_judges (Ok answer) keyed acted shut same = record {
    done = acted;
    taken = record {
      led = λ at st few. key_taken at answer (keyed at st few);
      works = λ s. (let e : ◌≡◌ {A = Result (Option Answer) KeyFault} (Ok answer) (Err KeyFailed) = shut s in cc);
    };
    refused = tt;
    same = tt;
  }
  key_judges (Err fault) keyed acted shut same = record {
    done = tt;
    taken = tt;
    refused = (
      record {
        led = λ at st few. (keyed at st few).0;
        shut = λ s. (let e : ◌≡◌ {A = Result (Option Answer) KeyFault} (Err fault) (Err KeyFailed) = shut s in cc);
      },
      record {
        led = λ at st few. key_idle at fault (keyed at st (omega (arith, few))) st;
        shut = λ s. record { no_byte = refl; same = same; unwritten = refl; no_event = refl };
      },
    );
    same = same;
  }

module _ {D P U H PlaceV V K R : Type 0} (rules : Rules P U) (d : DisplayOf D U H PlaceV V K R)
    (free : IsPrefixFree rules) (begins : Begins rules) (old new : LastingParts D P) (at : Footing H) (key : K)
    (same : new ≡ record old { station = new.station }) where
  pressed_so : (bytes : List ℕ) (items : List (Item U)) (result : Result (Option Answer) KeyFault)
      → ((next : EndStateOn H) → ReachedOn (on_display rules d) new.station bytes items next
      → StandsAt (on_display rules d) new (record at { state = next }))
      → IsKeyedOn (on_display rules d) old.station new.station bytes items at.state key result
      → IsKeyHeard (on_display rules d) old new at key result
  pressed_so bytes items (Err fault) stands k = (k.0, same ∙ ap (λ z. (record old { station = z })) k.1)
  pressed_so bytes items (Ok None) stands k = (k.0, k.1, stands _ k.2)
  pressed_so bytes items (Ok (Some (Read body))) stands k = (k.0, k.1, k.2, k.3, k.4, stands _ k.5)
  pressed_so bytes items (Ok (Some Attention)) stands k = (k.0, stands _ k.1)
  pressed_so bytes items (Ok (Some SystemRequest)) stands k = (k.0, stands _ k.1)

  pub key_pressed : (result : Result (Option Answer) KeyFault) → StandsAt (on_display rules d) old at
      → old.taken + 1 < 2 ^ 64
      → AtStationOn (on_display rules d) old.station (λ bytes items state. length bytes + 1 < 2 ^ 64
      → IsKeyedOn (on_display rules d) old.station new.station bytes items state key result)
      → IsKeyHeard (on_display rules d) old new at key result
  key_pressed result st few keyed = go old.passing refl st.within where
    begun : new.begun ≡ at.begun
    begun = ap (λ (z : LastingParts _ _). z.begun) same ∙ st.is_begun

    works : new.ended ≡ None
    works = ap (λ (z : LastingParts _ _). z.ended) same ∙ st.works

    named : new.environ ≡ at.environ
    named = ap (λ (z : LastingParts _ _). z.environ) same ∙ st.is_environ

    go : (o : Option RefusedRecord) → old.passing ≡ o → ReadsOrPasses (on_display rules d) old at o
        → IsKeyHeard (on_display rules d) old new at key result
    go None is (r, size) = pressed_so r.bytes r.items result (λ next l. (
        let one = one_holds rules free begins l.reached.holds r.reached.reached.holds in
        stands_reading rules d new (record at { state = next }) works begun named
        (ap (λ (z : LastingParts _ _). z.passing) same ∙ is) (record {
          bytes = r.bytes;
          items = r.items;
          reached = l;
          is_open = one.1 ∙ r.is_open;
          is_begun = one.2 ∙ r.is_begun;
          few = (let t = ap (λ (z : LastingParts _ _). z.taken) same in let n = r.few in omega (arith, n, t));
        }) (ap (λ (z : LastingParts _ _). z.size) same ∙ size)))
        (keyed r.bytes r.items at.state r.reached (let n = r.few in omega (arith, n, few)))
    go (Some why) is p = pressed_so [] [] result (λ next l. (
        stands_passing rules d new (record at { state = next }) works begun named why
        (ap (λ (z : LastingParts _ _). z.passing) same ∙ is)
        (record { reached = l; of_record = p.of_record; spoilt = p.spoilt })))
        (keyed [] [] at.state p.reached (omega arith))

-- A key is an act.

module _ {D P U H PlaceV V K R : Type 0} (rules : Rules P U) (d : DisplayOf D U H PlaceV V K R)
    (spells : SpellsOn d) (old new : LastingParts D P) (key : K) (same : new ≡ record old { station = new.station })
  where
    kept : IsCounted old.counts [] new.counts
    kept = subst (λ (z : LastingParts D P). IsCounted old.counts [] z.counts) (sym same) (counted_none old.counts)

    unread : new.taken ≡ old.taken + 0
    unread = let t = ap (λ (z : LastingParts _ _). z.taken) same in omega (arith, t)

    key_leads : (at : Footing H) (answer : Option Answer) → IsKeyHeard (on_display rules d) old new at key (Ok answer)
        → LeadsOnFrom (on_display rules d) old new at (Did key ∷ []) (sent_by answer) []
    key_leads at None k = (record at { state = k.0 }, rw k.1 ([], (refl, refl, refl), refl), k.2, kept, unread)
    key_leads at (Some (Read body)) k = (
      record at { state = k.0 },
      rw k.3 (
        [],
        (refl, refl, refl),
        ap (λ z. record_spelling (header (10 + length z) 0 PutGet ++ z)) k.4
            ∙ sym (append-nil _) ∙ sym (spells (d.shows at.state.happened) k.1 k.2) ∙ sym (append-nil _),
      ),
      k.5,
      kept,
      unread,
    )
    key_leads at (Some Attention) k = (at, rw k.0 ([], (refl, refl, refl), refl), k.1, kept, unread)
    key_leads at (Some SystemRequest) k = (at, rw k.0 ([], (refl, refl, refl), refl), k.1, kept, unread)

    pub key_acts : (result : Result (Option Answer) KeyFault) → (IsShut old.ended old.taken → ⊥)
        → AtLasting (on_display rules d) old (λ at. old.taken + 1 < 2 ^ 64
        → IsKeyHeard (on_display rules d) old new at key result)
        → IfOk result (λ answer. LastingTraces (on_display rules d) old (Did key ∷ []) (sent_by answer) [] new)
    key_acts (Ok answer) works keyed = record {
      led = λ at st few. key_leads at answer (keyed at st (omega (arith, few)));
      shut = λ shut. absurd (works shut);
    }
    key_acts (Err fault) works keyed = tt
