-- Bytes that come to an end, one by one.

use Rattle.ws_session.proofs.Common as C
use C.{flat_map, ◌≡◌, ◌+◌, ◌≤◌, List, [], ◌∷◌, ◌++◌, refl, subst, ◌∙◌, ℕ, zero, suc, ◌<◌, Option, Some, None, drop, ap}
use C.{sym, arith, take, take-append-drop, ◌^◌, min, inl, inr, length, get_or, append_assoc, add-zero, add-one}
use C.{length-append, length-drop, drop-cons, length-take, ◌⊎◌, true, subst₂, drop-append_seam, cases_lt}
use C.{flat_map-append, append-nil, drop-drop, plain_spelling, item_spelling, Item, IsInRange, bytes_came, all_came}
use C.{Happening, doing, items_of, Arrives, Transitions, AllTaken, Happen, HoldsItems, Refusal, At, Failed, Memory}
use C.{Event, Reason, Refuses, goes_on, IsWhy, HasRefusedIn, Through, WireParts, reported, HasMemory, AreDelivered}
use C.{at_end, Session, ending_at, arrived, AreWritable}
use Rattle.ws_code.specs.Code.{IsPrefixFree}
use Rattle.ws_code.proofs.Bytes.{SpellsBytes}
use Rattle.ws_code.proofs.CodeLaws.{Begins}
use Rattle.ws_record.proofs.Flights.{byte_more, ByteMore}
use Rattle.ws_end.specs.Acts.{bytes_of, protocol_of, IsTrace}
use Rattle.ws_end.specs.driver.Driven.{Driven, Driving, IsReached, transitions_of}
use Rattle.ws_end.specs.driver.DriverBehaviour.{driver_behaviour, DriverTraces}
use Rattle.ws_session.specs.world.Wires.{Telling}
use Rattle.ws_end.proofs.EndSteps.{trace_none}

-- the first of what stands behind a place
pub some_first : (xs : List ℕ) (n x : ℕ) (rest : List ℕ) → drop n xs ≡ x ∷ rest → n < length xs → x ≡ get_or xs n x
some_first xs n x rest e more = let f : x ∷ rest ≡ get_or xs n x ∷ drop (suc n) xs = sym e ∙ drop-cons xs n x more in cc

pub some_rest : (xs : List ℕ) (n x : ℕ) (rest : List ℕ) → drop n xs ≡ x ∷ rest → n < length xs → drop (n + 1) xs ≡ rest
some_rest xs n x rest e more =
    let f : x ∷ rest ≡ get_or xs n x ∷ drop (suc n) xs = sym e ∙ drop-cons xs n x more in
    let g : drop (suc n) xs ≡ rest = cc in
    ap (λ k. drop k xs) (add-one n) ∙ g

-- What bytes have led to, by the first of them: no item is complete with it, or one is.
module _ {R K Place U Request EndEvent Reply : Type 0} (d : Driving R K Place U Request EndEvent Reply) where
  abbrev pub Here : Type 1
  Here = List ℕ → List (Item U) → d.does.State → Type 0

  abbrev transitions : Transitions d.does.State U d.does.V Request EndEvent
  transitions = transitions_of d

  -- these bytes come, and then this holds
  abbrev Later : Here → List ℕ → List ℕ → List EndEvent → Here
  Later Then xs written end_events bytes items state = IsTrace (protocol_of d.rules d.does.out transitions) Then bytes
      items state (all_came {Request = Request} xs) written end_events

  module _ (Then : Here) (bytes : List ℕ) (items : List (Item U)) (state : d.does.State) (x : ℕ) (xs written : List ℕ)
      (end_events : List EndEvent) where
    abbrev NoneFirst : Type 0
    NoneFirst = HoldsItems d.rules (bytes ++ x ∷ []) items × Later Then xs written end_events
        (bytes ++ x ∷ []) items state

    abbrev OneFirst : Type 0
    OneFirst = (item : Item U) × HoldsItems d.rules (bytes ++ x ∷ []) (items ++ item ∷ [])
        × (goes_on (d.does.takes state item) ≡ true) × (later : List ℕ) × (more : List EndEvent)
        × (written ≡ plain_spelling d.does.out (transitions.at state (Arrives item)).written ++ later)
        × (end_events ≡ (transitions.at state (Arrives item)).events ++ more)
        × Later Then xs later more (bytes ++ x ∷ []) (items ++ item ∷ []) (transitions.at state (Arrives item)).state

    abbrev Facts : List (Happening U Request) → Type 0
    Facts hs = AllTaken transitions state hs
        × (written ≡ plain_spelling d.does.out (doing transitions state hs).written)
        × (end_events ≡ (doing transitions state hs).events) × Then (bytes ++ bytes_of
        (all_came {Request = Request} (x ∷ xs))) (items ++ items_of hs) (doing transitions state hs).state

    trace_first : Later Then (x ∷ xs) written end_events bytes items state → NoneFirst ⊎ OneFirst
    trace_first g = by g.happened g.happen (g.taken, g.wrote, g.tells, g.reached) where
      by : (hs : List (Happening U Request)) → Happen d.rules bytes items (all_came {Request = Request} (x ∷ xs)) hs
          → Facts hs → NoneFirst ⊎ OneFirst
      by hs (inl h) f = inl (
        h.0,
        record {
          happened = hs;
          happen = h.1;
          taken = f.0;
          wrote = f.1;
          tells = f.2;
          reached = subst (λ (z : List ℕ). Then z (items ++ items_of hs) (doing transitions state hs).state)
              (sym (append_assoc bytes (x ∷ []) (bytes_of (all_came {Request = Request} xs)))) f.3;
        },
      )
      by hs (inr h) f =
          let done = transitions.at state (Arrives h.0) in
          let rest = doing transitions done.state h.1 in
          let n = subst Facts h.3 f in
          inr (
            h.0,
            h.2,
            n.0.0,
            plain_spelling d.does.out rest.written,
            rest.events,
            n.1 ∙ flat_map-append (item_spelling d.does.out) done.written rest.written,
            n.2,
            record {
              happened = h.1;
              happen = h.4;
              taken = n.0.1;
              wrote = refl;
              tells = refl;
              reached = subst₂ (λ (z : List ℕ) (its : List (Item U)). Then z its rest.state)
                  (sym (append_assoc bytes (x ∷ []) (bytes_of (all_came {Request = Request} xs))))
                  (sym (append_assoc items (h.0 ∷ []) (items_of h.1))) n.3;
            },
          )

-- Bytes that come to an end of a session one by one, by what one of them makes of it.

module _ (one : Session → Session) (many : ℕ → Session → Session) (none : (w : Session) → many zero w ≡ w)
    (next : (n : ℕ) (w : Session) → many (suc n) w ≡ many n (one w)) where
  idle : (n : ℕ) (w : Session) → one w ≡ w → many n w ≡ w
  idle zero w e = none w
  idle (suc n) w e = next n w ∙ ap (many n) e ∙ idle n w e

  -- once nothing is in flight, more bytes make no difference
  stop : (n m : ℕ) → n ≤ m → (w : Session) → one (many n w) ≡ many n w → many m w ≡ many n w
  stop zero m h w e = idle m w (ap one (sym (none w)) ∙ e ∙ none w) ∙ sym (none w)
  stop (suc n) zero h w e = absurd (omega (arith, h))
  stop (suc n) (suc m) h w e =
      next m w ∙ stop n m (omega (arith, h)) _ (ap one (sym (next n w)) ∙ e ∙ next n w) ∙ sym (next n w)

  -- Where the session stands is told by what holds of the bytes that have come, how many they are, what the end wrote
  -- and what was told; and it tells what was sent to the end, how much of it has come, and the end's state.
  module _ {R K Place U Request EndEvent Reply : Type 0} (d : Driving R K Place U Request EndEvent Reply)
      (spells : SpellsBytes d.rules) (free : IsPrefixFree d.rules) (begins : Begins d.rules)
      (telling : Telling EndEvent) (bytes : List ℕ) (sent : Session → List (Item U)) (place : Session → ℕ)
      (state : Session → d.does.State)
      (Stands : Here d → ℕ → List ℕ → List Event → Session → Type 0)
    where
      abbrev told : List EndEvent → List Event
      told t = flat_map telling.tells t

      abbrev pub Holds : Here d → Session → ℕ → Type 0
      Holds A w n = A (take n (plain_spelling d.rules (sent w))) (arrived d.rules (sent w) n) (state w)

      -- what is known where it stands so
      pub record Stood (A : Here d) (at : ℕ) (w : Session) : Type 0 where
        pub at_place : at ≡ place w
        pub sent_bytes : bytes ≡ plain_spelling d.rules (sent w)
        pub writable : AreWritable d.rules (sent w)
        pub holds : Holds A w (place w)

      -- a byte comes to the end where it stands so
      pub record ByteStep (at : ℕ) (wrote : List ℕ) (said : List Event) (w : Session) : Type 1 where
        pub inside : (Then : Here d) → ending_at d.rules (sent w) (place w + 1) ≡ None → Holds Then w (place w + 1)
            → Stands Then (at + 1) (wrote ++ []) said (one w)
        pub taken : (Then : Here d) (item : Item U) → ending_at d.rules (sent w) (place w + 1) ≡ Some item
            → IsInRange item → goes_on (d.does.takes (state w) item) ≡ true → Then (take (place w + 1)
            (plain_spelling d.rules (sent w))) (arrived d.rules (sent w) (place w + 1))
            ((transitions_of d).at (state w) (Arrives item)).state → Stands Then (at + 1)
            (wrote ++ plain_spelling d.does.out ((transitions_of d).at (state w) (Arrives item)).written)
            (said ++ told ((transitions_of d).at (state w) (Arrives item)).events) (one w)
        pub unrefused : (item : Item U) (reason : Reason) → ending_at d.rules (sent w) (place w + 1) ≡ Some item
            → d.does.takes (state w) item ≡ Refuses reason → ⊥

      module _ (known : (A : Here d) (at : ℕ) (wrote : List ℕ) (said : List Event) (w : Session)
          → Stands A at wrote said w → Stood A at w)
          (with : (A B : Here d) (at : ℕ) (wrote : List ℕ) (said : List Event) (w : Session)
          → Stands A at wrote said w → (Holds A w (place w) → Holds B w (place w)) → Stands B at wrote said w)
          (steps : (A : Here d) (at : ℕ) (wrote : List ℕ) (said : List Event) (w : Session)
          → Stands A at wrote said w → at < length bytes → ByteStep at wrote said w)
          (stays : (A : Here d) (at : ℕ) (wrote : List ℕ) (said : List Event) (w : Session)
          → Stands A at wrote said w → length bytes ≤ at → one w ≡ w) where
        module _ (A : Here d) (at : ℕ) (wrote : List ℕ) (said : List Event) (w : Session) (h : Stands A at wrote said w)
            (more : at < length bytes) (x : ℕ) (is : x ≡ get_or bytes at x) where
          came : ByteMore d.rules (sent w) (place w) x
          came =
              let k = known A at wrote said w h in
              byte_more d.rules spells free begins (sent w) k.writable (place w)
              (omega (arith, more, k.at_place, ap length k.sent_bytes)) x
              (is ∙ ap (λ z. get_or z at x) k.sent_bytes
              ∙ ap (λ n. get_or (plain_spelling d.rules (sent w)) n x) k.at_place)

          prefix : List ℕ
          prefix = take (place w) (plain_spelling d.rules (sent w)) ++ x ∷ []

        comes : (Then : Here d) (x : ℕ) (xs v : List ℕ) (t : List EndEvent) (at : ℕ) (wrote : List ℕ)
            (said : List Event) (w : Session) → Stands (Later d Then (x ∷ xs) v t) at wrote said w
            → at < length bytes → x ≡ get_or bytes at x
            → (v' : List ℕ) × (later : List ℕ) × (t' : List EndEvent) × (more : List EndEvent) × (v ≡ v' ++ later)
            × (t ≡ t' ++ more) × Stands (Later d Then xs later more) (at + 1) (wrote ++ v')
            (said ++ told t') (one w)
        comes Then x xs v t at wrote said w h more is =
            let A = Later d Then (x ∷ xs) v t in
            let c = came A at wrote said w h more x is in
            let step = steps A at wrote said w h more in
            elim (trace_first d Then _ _ (state w) x xs v t (known A at wrote said w h).holds) [
              | inl n ↦ (let g = c.goes_on _ n.0 in (
                [],
                v,
                [],
                t,
                refl,
                refl,
                subst (λ (z : List Event). Stands (Later d Then xs v t) (at + 1) (wrote ++ []) z (one w))
                    (sym (append-nil said)) (step.inside (Later d Then xs v t) (c.none_ends n.0)
                    (subst₂ (λ y its. Later d Then xs v t y its (state w)) g.0 g.1 n.1)),
              ))
              | inr k ↦ (let g = c.goes_on _ k.1 in
                  let o = c.one_ends k.0 k.1 in
                  let done = (transitions_of d).at (state w) (Arrives k.0) in (
                    plain_spelling d.does.out done.written,
                    k.3,
                    done.events,
                    k.4,
                    k.5,
                    k.6,
                    step.taken (Later d Then xs k.3 k.4) k.0 o.0 o.1 k.2
                        (subst₂ (λ y its. Later d Then xs k.3 k.4 y its done.state) g.0 g.1 k.7),
                  ))
            ]

        -- no byte is refused
        never : (Q : List (Item U) → d.does.State → Type 0) (byte : ℕ) (why : Refusal) (at : ℕ) (wrote : List ℕ)
            (said : List Event) (w : Session)
            → Stands (λ b i s. IsWhy d why (b ++ byte ∷ []) i s × Q i s) at wrote said w → at < length bytes
            → byte ≡ get_or bytes at byte → HasMemory (Some why) → ⊥
        never Q byte Failed at wrote said w h more is memory = (known _ at wrote said w h).holds.0
        never Q byte Memory at wrote said w h more is memory = memory
        never Q byte (At place' reason) at wrote said w h more is memory =
            let c = came _ at wrote said w h more byte is in
            elim (known _ at wrote said w h).holds.0.1 [
              | inl refused ↦ c.none_refused place' reason refused
              | inr item ↦ (steps _ at wrote said w h more).unrefused item.item reason
                  (c.one_ends item.item item.holds).0 item.so
            ]

        one_by_one : (xs rest : List ℕ) (Then : Here d) (v : List ℕ) (t : List EndEvent) (at : ℕ)
            (wrote : List ℕ) (said : List Event) (w : Session) → Stands (Later d Then xs v t) at wrote
            said w → drop at bytes ≡ xs ++ rest
            → Stands Then (at + length xs) (wrote ++ v) (said ++ told t) (many (length xs) w)
        one_by_one [] rest Then v t at wrote said w h split =
            let g = (known (Later d Then [] v t) at wrote said w h).holds in
            let silent = rw g.happen at g.wrote in
            let no_event = rw g.happen at g.tells in
            rw (silent, no_event, none w, append-nil wrote, append-nil said, add-zero at)
            (with (Later d Then [] v t) Then at wrote said w h (λ p. trace_none p))
        one_by_one (x ∷ xs) rest Then v t at wrote said w h split =
            let more : at < length bytes = omega (arith, ap (λ z. length z) split, length-drop at bytes) in
            let c = comes Then x xs v t at wrote said w h more (some_first bytes at x (xs ++ rest) split more) in
            let all = one_by_one xs rest Then c.1 c.3 (at + 1) (wrote ++ c.0) (said ++ told c.2) (one w) c.6
            (some_rest bytes at x (xs ++ rest) split more) in
            let n : (at + 1) + length xs ≡ at + length (x ∷ xs) = omega arith in
            let out : (wrote ++ c.0) ++ c.1 ≡ wrote ++ v =
            append_assoc wrote c.0 c.1 ∙ ap (λ z. wrote ++ z) (sym c.4) in
            let says : (said ++ told c.2) ++ told c.3 ≡ said ++ told t =
            append_assoc said (told c.2) (told c.3) ∙ ap (λ z. said ++ z)
            (sym (flat_map-append telling.tells c.2 c.3)) ∙ ap (λ z. said ++ told z) (sym c.5) in
            subst (λ (u : Session). Stands Then (at + length (x ∷ xs)) (wrote ++ v) (said ++ told t) u)
            (sym (next (length xs) w))
            (subst (λ (k : ℕ). Stands Then k (wrote ++ v) (said ++ told t) (many (length xs) (one w))) n
            (subst₂ (λ (y : List ℕ) (z : List Event). Stands Then ((at + 1) + length xs) y z
            (many (length xs) (one w))) out says all))

        -- so many have come where it stands so
        held : (A : Here d) (at : ℕ) (wrote : List ℕ) (said : List Event) (w : Session) → Stands A at wrote said w
            → length (take (place w) (plain_spelling d.rules (sent w))) ≤ min at (length bytes)
        held A at wrote said w h =
            let k = known A at wrote said w h in
            omega (arith, k.at_place, ap length k.sent_bytes, length-take (place w) (plain_spelling d.rules (sent w)))

        -- the bytes that came, as acts that led on
        led_by : (e e' : Driven R K Place) (xs rest v : List ℕ) (t : List EndEvent) (at : ℕ) (wrote : List ℕ)
            (said : List Event) (w : Session) → length bytes + 1 < 2 ^ 64 → Stands (IsReached d e) at wrote said w
            → drop at bytes ≡ xs ++ rest → DriverTraces d e (all_came xs) v t e'
            → Stands (IsReached d e') (at + length xs) (wrote ++ v) (said ++ told t)
            (many (length xs) w)
        led_by e e' xs rest v t at wrote said w few h split g =
            one_by_one xs rest (IsReached d e') v t at wrote said w
            (with (IsReached d e) (Later d (IsReached d e') xs v t) at
            wrote said w h (λ l. g.led _ _ _ l (omega (
              arith,
              held (IsReached d e) at wrote said w h,
              few,
              ap (λ (z : List ℕ). length z) (bytes_came Request xs),
              ap (λ (z : List ℕ). length z) split,
              length-append xs rest,
              length-drop at bytes,
            )))) split

        -- none is refused
        none_refused : (e e' : Driven R K Place) (xs rest v : List ℕ) (t : List EndEvent) (why : Refusal) (at : ℕ)
            (wrote : List ℕ) (said : List Event) (w : Session) → length bytes + 1 < 2 ^ 64
            → Stands (IsReached d e) at wrote said w → drop at bytes ≡ xs ++ rest → HasMemory (Some why)
            → HasRefusedIn (driver_behaviour d) e xs v t why e' → ⊥
        none_refused e e' xs rest v t why at wrote said w few h split memory r =
            let whole : drop at bytes ≡ r.before ++ (r.prefix ++ ((r.byte ∷ r.after) ++ rest)) =
            split ∙ ap (λ z. z ++ rest) r.split ∙ append_assoc r.before (r.prefix ++ r.byte ∷ r.after) rest
            ∙ ap (λ z. r.before ++ z) (append_assoc r.prefix (r.byte ∷ r.after) rest) in
            let here = at + length r.before in
            let there = here + length r.prefix in
            let mid = led_by e r.last r.before _ v t at wrote said w few h whole r.led in
            let left : drop here bytes ≡ r.prefix ++ ((r.byte ∷ r.after) ++ rest) = sym
            (drop-drop (length r.before) at bytes)
            ∙ ap (drop (length r.before)) whole
            ∙ drop-append_seam r.before (r.prefix ++ ((r.byte ∷ r.after) ++ rest)) in
            let last : drop there bytes ≡ (r.byte ∷ r.after) ++ rest = sym (drop-drop (length r.prefix) here bytes)
            ∙ ap (drop (length r.prefix)) left ∙ drop-append_seam r.prefix ((r.byte ∷ r.after) ++ rest) in
            let room : there < length bytes =
            omega (arith, ap (λ (z : List ℕ). length z) last, length-drop there bytes) in
            let AtLast : Here d = λ b i s. IsWhy d why (b ++ r.byte ∷ []) i s × d.does.stands e'.reacts i s in
            let end = one_by_one r.prefix _ AtLast [] [] here _ _ _
            (with (IsReached d r.last) (Later d AtLast r.prefix [] []) here _ _ _ mid (λ l. r.refused.led _ _ _ l
            (omega (arith, held (IsReached d r.last) here _ _ _ mid, few, room)))) left in
            never (d.does.stands e'.reacts) r.byte why there _ _ _ end room (some_first bytes there r.byte _ last room)
            memory

        -- so many of the bytes in flight, or all that are
        pub delivered : (e : Driven R K Place) (at : ℕ) (wrote : List ℕ) (said : List Event) (w : Session)
            → Stands (IsReached d e) at wrote said w
            → (e' : Driven R K Place) (from to : WireParts) (k : ℕ) (said' : List Event) (count : ℕ)
            → (g : AreDelivered (driver_behaviour d) telling
            (at_end e (record { bytes = bytes; at = at }) (record { bytes = wrote; at = k }) said) count
            (at_end e' from to said'))
            → Stands (IsReached d e') (at + length g.bytes) (wrote ++ g.written) (said ++ g.events) (many count w)
        delivered e at wrote said w h e' from to k said' count g =
            let waiting : List ℕ = drop at bytes in
            let split : waiting ≡ g.bytes ++ drop count waiting = sym (take-append-drop count waiting)
            ∙ ap (λ z. z ++ drop count waiting) (sym g.first) in
            let Now : Session → Type 0 = Stands (IsReached d e') (at + length g.bytes) (wrote ++ g.written)
            (said ++ g.events) in
            let now : Now (many (length g.bytes) w) =
            by g.comes.why g.comes.through g.comes.reports g.comes.has_memory split in
            let size : length g.bytes ≡ min count (length waiting) = ap (λ z. length z) g.first
            ∙ length-take count waiting in
            elim (cases_lt (length g.bytes) count) [
              | inl lt ↦ subst Now (sym (stop _ count (omega (arith, lt)) w
                  (stays (IsReached d e') _ _ _ _ now (omega (arith, lt, size, length-drop at bytes))))) now
              | inr ge ↦ (let e : length g.bytes ≡ count = omega (arith, ge, size) in rw (← e) now)
            ] where
              by : (why : Option Refusal) → Through (driver_behaviour d) e g.bytes g.written g.comes.end_events why e'
                  → g.events ≡ reported (driver_behaviour d) telling g.comes.end_events why
                  → HasMemory why → drop at bytes ≡ g.bytes ++ drop count (drop at bytes)
                  → Stands (IsReached d e') (at + length g.bytes) (wrote ++ g.written) (said ++ g.events)
                  (many (length g.bytes) w)
              by None t same memory split = rw same
                  (led_by e _ g.bytes _ g.written g.comes.end_events at wrote said w g.few h split t)
              by (Some why) r end_events memory split = absurd (none_refused e _ g.bytes _ g.written
                  g.comes.end_events why at wrote said w g.few h split memory r)
