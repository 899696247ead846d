-- What a driver makes of a prefix and of further ones: the relation of a piece is that of its parts.

use Rattle.ws_end.proofs.Common as C
use C.{◌≡◌, ◌+◌, ◌≤◌, List, [], ◌∷◌, ◌++◌, refl, subst, ◌∙◌, ℕ, ◌<◌, Option, None, Some, take, drop, ap, sym, arith}
use C.{inl, inr, length, append_assoc, length-append, Err, Ok, Result, Item, bytes_came, came_append, all_came}
use C.{trace_on, as_list, GoesOn, HoldsItems, take-append-le, take_all, take-append-drop, take-append-add, cases_lt}
use C.{◌-◌, OnOk, Leads, RecordSoFar, Watching, News, record_of, TelnetItem, ◌⊎◌, ◌^◌, length-drop, no_record, Head}
use C.{◌==◌, true, eqb_tells, both_ways, RecordItem, spelling_of, take-take, length-take-le}
use Rattle.std.specs.Result.{OnErr, MatchResult}
use Rattle.std.proofs.Math.Seq.{drop-append-add}
use Rattle.std.proofs.Math.ListN.{drop_of_length-le}
use Rattle.ws_code.specs.Run.{intake, with_keep}
use Rattle.ws_telnet.specs.Words.{telnet_of}
use Rattle.ws_record.specs.Advance.{IsAdvance}
use Rattle.ws_record.specs.Live.{stream}
use Rattle.ws_record.specs.OpenRecord.{HasRead, IsHead}
use Rattle.ws_record.specs.declared.news.News.TheVariants as events
use Rattle.ws_record.proofs.Lives.{fetched}
use Rattle.ws_end.specs.Acts.{protocol_of}
use Rattle.ws_end.specs.Reaction.{goes_on}
use Rattle.ws_end.proofs.EndSteps.{none_went, one_went}
use Rattle.ws_end.proofs.Feedings.{none_happen, one_happens, none_come}
use Rattle.ws_end.specs.declared.refusal.Refusal.{Refusal}
use Rattle.ws_end.specs.declared.end_step.EndFed.{EndFed}
use Rattle.ws_end.specs.declared.refusal.Refusal.TheVariants.{At, Failed, Memory}
use Rattle.ws_end.specs.declared.end_step.EndStep.{EndStep}
use Rattle.ws_end.specs.declared.driver.halt.Halt.{Halt}
use Rattle.ws_end.specs.declared.driver.halt.Halt.TheVariants as halt
use Rattle.ws_end.specs.driver.Reacting.{IsReaction, Settles, at_reaction}
use Rattle.ws_end.specs.driver.Driven.{Driven, Driving, IsReached, Come, AreSilent, Bring, TakesPrefix, DriverTakes}
use Rattle.ws_end.specs.driver.Driven.{IsPrefixTaken, IsSilent, IsSettled, IsNewsTaken, IsWhy, transitions_of}
use Rattle.ws_end.specs.driver.Driven.{TellsNothing}

abbrev stopped : {R K Place : Type 0} → Driven R K Place → Refusal → Driven R K Place
stopped driver why = record driver { ended = Some why }

module _ {R K Place U Request Event Reply : Type 0} (d : Driving R K Place U Request Event Reply) where
  module _ (old mid new : Driven R K Place) (a b : List ℕ) (quiet : Result (EndStep Event Reply) Refusal)
      (silent : IsSilent d mid.reacts quiet) (p : DriverTakes d old a mid quiet) where
    led : (bytes : List ℕ) (items : List (Item U)) (state : d.does.State) → IsReached d old bytes items state
        → Come d (IsReached d mid) bytes items state a [] []
    led bytes items state l = rw (silent.1, silent.2, silent.3) at (p.brings bytes items state l)

    -- what others bring behind bytes that bring nothing
    then : (Then : List ℕ → List (Item U) → d.does.State → Type 0) (bytes : List ℕ) (items : List (Item U))
        (state : d.does.State) → IsReached d old bytes items state → (more reply : List ℕ) (events : List Event)
        → ((bytes' : List ℕ) (items' : List (Item U)) (state' : d.does.State) → IsReached d mid bytes' items' state'
        → Come d Then bytes' items' state' more reply events) → Come d Then bytes items state (a ++ more) reply events
    then Then bytes items state l more reply events next = rw (came_append a more)
        (trace_on (protocol_of d.rules d.does.out (transitions_of d)) (IsReached d mid) Then bytes items state
        (all_came a) (all_came more) [] reply [] events (led bytes items state l)
        (λ bytes' items' state' m size. next bytes' items' state' m))

    -- bytes that bring nothing, and then others
    pub takes_on : (result : Result (EndStep Event Reply) Refusal) → DriverTakes d mid b new result
        → DriverTakes d old (a ++ b) new result
    takes_on result q = record {
      brings = λ bytes items state l. brings result bytes items state l (λ b' i s m. q.brings b' i s m);
      first = λ bytes items state l n lt. elim (cases_lt n (length a)) [
        | inl less ↦ rw (take-append-le n a b (omega (arith, less))) (p.first bytes items state l n less)
        | inr more ↦ (let m : ℕ = n - length a in
            let is : take n (a ++ b) ≡ a ++ take m b = ap (λ (z : ℕ). take z (a ++ b)) (omega (arith, more))
            ∙ take-append-add a b m in
            rw is (then (λ b' i s. Unit {0}) bytes items state l (take m b) [] [] (λ b' i s l'. q.first b' i s l' m
            (omega (arith, lt, more, length-append a b)))))
      ];
      counted = omega (arith, p.counted, q.counted, length-append a b);
      ended = q.ended;
      seen = λ none. q.seen none ∙ (rw silent.1 at p.seen) silent.2;
    } where
      brings : (result : Result (EndStep Event Reply) Refusal) (bytes : List ℕ) (items : List (Item U))
          (state : d.does.State) → IsReached d old bytes items state → ((bytes' : List ℕ) (items' : List (Item U))
          (state' : d.does.State) → IsReached d mid bytes' items' state' → Bring d bytes' items' state' b new result)
          → Bring d bytes items state (a ++ b) new result
      brings (Ok step) bytes items state l next = then (IsReached d new) bytes items state l b _ _ next
      brings (Err why) bytes items state l next =
          let g = led bytes items state l in
          let some : 0 < length b = (next _ _ _ g.reached).0 in
          let size : length (a ++ b) - 1 ≡ length a + (length b - 1) = omega (arith, some, length-append a b) in
          let prefix = ap (λ (n : ℕ). take n (a ++ b)) size ∙ take-append-add a b (length b - 1) in
          let last = ap (λ (n : ℕ). drop n (a ++ b)) size ∙ drop-append-add a b (length b - 1) in (
            omega (arith, some, length-append a b),
            rw (prefix, last) (then _ bytes items state l
                (take (length b - 1) b) [] [] (λ b' i s m. (next b' i s m).1)),
          )

  -- no bytes
  pub takes_none : (old : Driven R K Place) (result : Result (EndStep Event Reply) Refusal) → old.ended ≡ None
      → IsSilent d old.reacts result → DriverTakes d old [] old result
  takes_none old result works silent = rw silent.1 (record {
    brings = λ bytes items state l. rw (silent.2, silent.3)
        (none_come d.rules d.does.out (transitions_of d) (IsReached d old) bytes items state l);
    first = λ bytes items state l n lt. absurd (omega (arith, lt));
    counted = omega arith;
    ended = works;
    seen = λ none. refl;
  })

  module _ (old : Driven R K Place) (bytes : List ℕ) (items : List (Item U)) (state : d.does.State)
      (l : IsReached d old bytes items state) (came : List ℕ) (some : 0 < length came)
      (held : (n : ℕ) → n < length came → HoldsItems d.rules (bytes ++ take n came) items) where
    -- nothing is complete before the last byte
    before : (Then : List ℕ → List (Item U) → d.does.State → Type 0) (n : ℕ) → n < length came
        → Then (bytes ++ take n came) items state → Come d Then bytes items state (take n came) [] []
    before Then n lt then = none_went (bytes_came Request (take n came)) (none_happen d.rules Request bytes items
        (take n came) (λ m le. let less : m ≤ n = omega (arith, le, length-take-le n came (omega (arith, lt))) in
        rw (take-take m n came less) (held m (omega (arith, less, lt))))) refl refl then

    pub silent_before : (n : ℕ) → n < length came → AreSilent d bytes items state (take n came)
    silent_before n lt = before (λ b i s. Unit {0}) n lt tt

    -- the last byte is refused
    refused : (why : Refusal) (new : Driven R K Place) → IsWhy d why (bytes ++ came) items state
        → d.does.stands new.reacts items state → Bring d bytes items state came new (Err why)
    refused why new is stands =
        let n : ℕ = length came - 1 in
        let whole : (bytes ++ take n came) ++ drop n came ≡ bytes ++ came = append_assoc bytes (take n came) (drop n came)
        ∙ ap (λ z. bytes ++ z) (take-append-drop n came) in
        (some, before _ n (omega (arith, some)) (rw whole is, stands))

    -- what the last byte brings is what all do
    brought : (new : Driven R K Place) (result : Result (EndStep Event Reply) Refusal)
        → IsPrefixTaken d new (bytes ++ came) items state result → Bring d bytes items state came new result
    brought new (Ok step) (inl q) = none_went (bytes_came Request came)
        (none_happen d.rules Request bytes items came (λ n le. elim (cases_lt n (length came)) [
          | inl lt ↦ held n lt
          | inr ge ↦ rw (take_all n came ge) (q.0.so_far.bytes, new.live.begun, q.0.reached.holds)
        ])) q.1 (ap (λ (o : Option Event). as_list o) q.2) q.0
    brought new (Ok step) (inr q) = one_went (bytes_came Request came) q.0
        (at_reaction (d.does.puts q.0) state (GoesOn q.1 q.2)) (ap (at_reaction (d.does.puts q.0) state) q.3)
        (one_happens d.rules Request bytes items q.0 came some held (
          q.6.so_far.bytes,
          new.live.begun,
          q.6.reached.holds,
        )) (ap goes_on q.3) q.4 (ap (λ (o : Option Event). as_list o) q.5) q.6
    brought new (Err why) q = refused why new q.0 q.1

  -- a record has no more bytes of a body than its header can declare
  body_fits : (reader : _) (r : RecordSoFar U) → HasRead d.rules reader r → length (drop 10 r.bytes) ≤ 65525
  body_fits reader r h =
      let whole : length (r.bytes ++ h.framed.more) < 2 ^ 16 = h.framed.framed.length_fits in
      omega (arith, whole, length-append r.bytes h.framed.more, length-drop 10 r.bytes)

  -- what is made of the news of a prefix
  module _ (old : Driven R K Place) (bytes : List ℕ) (items : List (Item U)) (state : d.does.State)
      (l : IsReached d old bytes items state) (came : List ℕ) (live : Watching Place)
      (kept : K) (mid new : Driven R K Place) (done : Result (EndStep Event Reply) Halt)
      (result : Result (EndStep Event Reply) Refusal) (same : OnErr done (mid.reacts ≡ old.reacts))
      (settled : IsSettled d mid done new result) where
    abbrev PrefixTaken : Type 0
    PrefixTaken = IsPrefixTaken d new (bytes ++ came) items state result

    -- nothing is complete
    quiet : (grown : RecordSoFar U) → Leads d.rules live (bytes ++ came) items grown
        → d.collects.holds kept grown.units (drop 10 grown.bytes) → (step : EndStep Event Reply) × (done ≡ Ok step)
        × (step.event ≡ None) × (d.does.written old.reacts step.reply ≡ [])
        × (mid ≡ record old { live = live; collector = kept }) → PrefixTaken
    quiet grown m keeps r =
        let is = rw r.1 at settled in
        let new_is = is.1 ∙ r.4 in
        rw (is.0, new_is) (inl (
          record { so_far = grown; reached = m; kept = keeps; stands = l.stands; works = l.works },
          r.3,
          r.2,
        ))

    -- the last byte is refused, and what reacts is as it was
    ends : (why : Refusal) → result ≡ Err why → new ≡ stopped mid why → mid.reacts ≡ old.reacts
        → IsWhy d why (bytes ++ came) items state → PrefixTaken
    ends why is new_is same why_is = rw (is, new_is) (why_is, rw same l.stands)

    -- an item is complete
    reacted : (grown : RecordSoFar U) (item : Item U) → Leads d.rules mid.live (bytes ++ came) (items ++ item ∷ []) grown
        → OnOk done (d.collects.holds mid.collector grown.units (drop 10 grown.bytes)) → mid.ended ≡ None
        → 0 < length (bytes ++ came)
        → IsReaction d.does mid.reacts (items ++ item ∷ []) (d.does.puts item) (d.does.takes state item) done
        → PrefixTaken
    reacted grown item m kept works some r = by done kept r same settled where
      holds : HoldsItems d.rules (bytes ++ came) (items ++ item ∷ [])
      holds = (grown.bytes, mid.live.begun, m.holds)

      by : (done : Result (EndStep Event Reply) Halt)
          → OnOk done (d.collects.holds mid.collector grown.units (drop 10 grown.bytes))
          → IsReaction d.does mid.reacts (items ++ item ∷ []) (d.does.puts item) (d.does.takes state item) done
          → OnErr done (mid.reacts ≡ old.reacts) → IsSettled d mid done new result → PrefixTaken
      by (Ok step) kept r same is = rw (is.0, is.1) (inr (
        item,
        r.0,
        r.1,
        r.2,
        r.3,
        r.4,
        record { so_far = grown; reached = m; kept = kept; stands = r.5; works = works },
      ))
      by (Err (halt.Refused reason)) kept r same is = ends (At (mid.live.taken - 1) reason) is.0 is.1 same (
        omega (arith, m.count, some),
        inr (record { item = item; holds = holds; so = r }),
      )
      by (Err halt.Memory) kept r same is =
          ends Memory is.0 is.1 same (inr (record { item = item; holds = holds; so = r }))
      by (Err halt.Failed) kept r same is = absurd r

    pub prefixed : (news : News)
        → IsAdvance (intake d.rules d.collects) (with_keep (stream bytes items l.so_far) old.collector) came
        (with_keep live kept) news → live.taken ≡ length (bytes ++ came)
        → ((news ≡ events.Failed → ⊥) → 0 < length (bytes ++ came))
        → IsNewsTaken d (record old { live = live; collector = kept }) news mid done → PrefixTaken
    prefixed events.More a count some r = quiet
        (record { bytes = a.2.grown; head = l.so_far.head; units = l.so_far.units ++ a.0 }) a.2.leads
        (rw a.2.body (a.3 _ _ l.kept)) r
    prefixed events.Unit a count some r = quiet
        (record { bytes = a.3.grown; head = l.so_far.head; units = l.so_far.units ++ (a.0 ++ a.1 ∷ []) }) a.3.leads
        (rw a.3.body (a.4 _ _ l.kept)) r
    prefixed (events.Open head) a count some r =
        let short : length l.so_far.bytes < 10 = subst (λ (h : Option Head). IsHead h l.so_far.bytes) a.0
        l.reached.reads.head in
        let none = drop_of_length-le l.so_far.bytes {i = 10} (omega (arith, short)) in
        quiet (record { bytes = a.1.0; head = Some head; units = l.so_far.units }) a.1.1
        (rw (a.2, a.1.2) (rw none at l.kept)) r
    prefixed (events.Close head) a count some r =
        let body : drop 10 l.so_far.bytes ≡ spelling_of d.rules l.so_far.units = ap (drop 10) a.0.carries in
        reacted no_record (RecordItem (record_of head l.so_far.units)) (rw (ap (λ (z : Driven R K Place). z.live) r.0) a.1)
        r.1 (ap (λ (z : Driven R K Place). z.ended) r.0 ∙ l.works) (some (λ e. cc))
        (r.2 l.so_far.units l.reached.reads.cut.chain (rw (← body) (body_fits _ l.so_far l.reached.reads))
        (rw (a.2, ← body) l.kept) items state l.stands)
    prefixed (events.Telnet word) a count some r =
        let t = r a.1 in
        reacted l.so_far (TelnetItem (telnet_of word live.sub)) (rw (ap (λ (z : Driven R K Place). z.live) t.1)
        (fetched d.rules live t.0 _ _ l.so_far a.0)) (always done (rw (
          ap
              (λ (z : Driven R K Place). z.collector) t.1,
          a.2,
        )
        l.kept)) (ap (λ (z : Driven R K Place). z.ended) t.1 ∙ l.works) (some (λ e. cc))
        (t.2 items state l.stands) where
          always : {P : Type 0} (done : Result (EndStep Event Reply) Halt) → P → OnOk done P
          always (Ok step) p = p
          always (Err why) p = tt
    prefixed (events.Refused reason) a count some r =
        let is = rw r.0 at settled in
        let at : mid.live.taken - 1 ≡ a.0 = omega (arith, count, a.1, ap (λ (z : Driven R K Place). z.live.taken) r.1) in
        ends (At (mid.live.taken - 1) reason) is.0 is.1 (ap (λ (z : Driven R K Place). z.reacts) r.1)
        (rw at a.1, inl (rw at a.2))
    prefixed events.NoMemory a count some r =
        let is = rw r.0 at settled in
        let e = a.0 in
        ends Memory is.0 is.1 (ap (λ (z : Driven R K Place). z.reacts) r.1)
        (inl (a.1, (bytes ++ e.0, e.1, ap (λ x. bytes ++ x) e.2 ∙ sym (append_assoc bytes e.0 (e.1 ∷ [])), e.3)))
    prefixed events.Failed a count some r = absurd a

  -- how it stands with the last byte taken
  stands_so : (old mid new : Driven R K Place) (done : Result (EndStep Event Reply) Halt)
      (result : Result (EndStep Event Reply) Refusal) → IsSettled d mid done new result
      → Settles d.does old.reacts mid.reacts done → mid.ended ≡ old.ended → (new.live.taken ≡ mid.live.taken)
      × (old.ended ≡ None → MatchResult result (λ step. new.ended ≡ None) (λ why. new.ended ≡ Some why))
      × (TellsNothing result → d.does.shown new.reacts ≡ d.does.shown old.reacts)
      × OnErr result (new.reacts ≡ old.reacts)
  stands_so old mid new (Ok step) result e f same = rw (e.0, e.1) (refl, λ works. same ∙ works, λ none. f.1 none, tt)
  stands_so old mid new (Err why) result e f same =
      rw (e.0, e.1) (refl, λ works. refl, λ none. ap d.does.shown f.0, f.0)

  -- a prefix of a piece
  pub prefix_is : (old : Driven R K Place) (piece : List ℕ) (used : ℕ) (live : Watching Place) (kept : K) (news : News)
      (mid new : Driven R K Place) (done : Result (EndStep Event Reply) Halt)
      (result : Result (EndStep Event Reply) Refusal) → used ≤ length piece
      → (old.live.taken + used < 2 ^ 64 → live.taken ≡ old.live.taken + used)
      → ((news ≡ events.Failed → ⊥) → 0 < used)
      → ((bytes : List ℕ) (items : List (Item U)) (so_far : RecordSoFar U) → Leads d.rules old.live bytes items so_far
      → length bytes + length piece < 2 ^ 64
      → IsAdvance (intake d.rules d.collects) (with_keep (stream bytes items so_far) old.collector) (take used piece)
      (with_keep live kept) news)
      → ((bytes : List ℕ) (items : List (Item U)) (so_far : RecordSoFar U) → Leads d.rules old.live bytes items so_far
      → (n : ℕ) → n < used → HoldsItems d.rules (bytes ++ take n piece) items)
      → IsNewsTaken d (record old { live = live; collector = kept }) news mid done
      → Settles d.does old.reacts mid.reacts done → (mid.live.taken ≡ live.taken) × (mid.ended ≡ old.ended)
      → IsSettled d mid done new result → TakesPrefix d old piece new (record { used = used; step = result })
  prefix_is old piece used live kept news mid new done result within counted some advance first taken so same is =
      let s = stands_so old mid new done result is so same.1 in record {
        within = within;
        used = λ works. some (λ e. works (rw (rw e at taken).0 at is).0);
        prefixed = λ bytes items state l few.
            let size : length (bytes ++ take used piece) ≡ length bytes + used = omega (
              arith,
              length-append bytes (take used piece),
              length-take-le used piece within,
            ) in
            let fits : old.live.taken + used < 2 ^ 64 = omega (arith, few, within, l.reached.count) in
            prefixed old bytes items state l (take used piece) live kept mid new done result so.0 is news
            (advance bytes items l.so_far l.reached few) (omega (arith, counted fits, size, l.reached.count))
            (λ works. omega (arith, size, some works)) taken;
        first = λ bytes items state l n lt. first bytes items l.so_far l.reached n lt;
        counted = λ fits. s.0 ∙ same.0 ∙ counted fits;
        ended = s.1;
        seen = s.2;
        stays = s.3;
      }

  -- a prefix that can be counted, at one that isn't stopped
  pub prefix_takes : (old : Driven R K Place) (piece : List ℕ) (new : Driven R K Place) (prefix : EndFed Event Reply)
      → TakesPrefix d old piece new prefix → old.ended ≡ None → old.live.taken + length piece < 2 ^ 64
      → DriverTakes d old (take prefix.used piece) new prefix.step
  prefix_takes old piece new prefix f works fits = record {
    brings = λ bytes items state l. brought old bytes items state l came (some bytes items state l)
        (λ n lt. held bytes items state l n lt) new prefix.step (prefixed bytes items state l);
    first = λ bytes items state l n lt. silent_before old bytes items state l came (omega (arith, lt))
        (λ m less. held bytes items state l m less) n lt;
    counted = f.counted (omega (arith, fits, f.within)) ∙ ap (λ (n : ℕ). old.live.taken + n) (sym size);
    ended = f.ended works;
    seen = f.seen;
  } where
    came : List ℕ
    came = take prefix.used piece

    size : length came ≡ prefix.used
    size = length-take-le prefix.used piece f.within

    prefixed : (bytes : List ℕ) (items : List (Item U)) (state : d.does.State) → IsReached d old bytes items state
        → IsPrefixTaken d new (bytes ++ came) items state prefix.step
    prefixed bytes items state l = f.prefixed bytes items state l (omega (arith, l.reached.count, fits))

    some : (bytes : List ℕ) (items : List (Item U)) (state : d.does.State) → IsReached d old bytes items state
        → 0 < length came
    some bytes items state l = omega (arith, size, f.used (λ e. (rw e at (prefixed bytes items state l)).0))

    held : (bytes : List ℕ) (items : List (Item U)) (state : d.does.State) → IsReached d old bytes items state → (n : ℕ)
        → n < length came → HoldsItems d.rules (bytes ++ take n came) items
    held bytes items state l n lt = rw (take-take n prefix.used piece (omega (arith, lt, size)))
        (f.first bytes items state l n (omega (arith, lt, size)))

  -- where nothing is complete
  pub none_complete : (old : Driven R K Place) (news : News) (step : EndStep Event Reply) → (news ≡ events.More)
      ⊎ ((news ≡ events.Unit) ⊎ ((head : Head) × (news ≡ events.Open head))) → step.event ≡ None
      → d.does.written old.reacts step.reply ≡ [] → IsNewsTaken d old news old (Ok step)
  none_complete old news step (inl e) no_event unwritten = rw e (step, refl, no_event, unwritten, refl)
  none_complete old news step (inr (inl e)) no_event unwritten = rw e (step, refl, no_event, unwritten, refl)
  none_complete old news step (inr (inr q)) no_event unwritten = rw q.1 (step, refl, no_event, unwritten, refl)

-- a list without an element
pub is_empty : {A : Type 0} (xs : List A) → (length xs == 0) ≡ true → xs ≡ []
is_empty [] e = refl
is_empty (x ∷ xs) e = absurd (elim (eqb_tells (length (x ∷ xs)) 0) [
  | inl h ↦ omega (arith, h.1)
  | inr h ↦ both_ways (length (x ∷ xs) == 0) h.0 e
])
