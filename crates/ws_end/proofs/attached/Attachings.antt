-- An attached end, byte by byte.

use Rattle.ws_end.proofs.Common as C
use C.{◌≡◌, ◌+◌, List, [], ◌∷◌, ◌++◌, refl, subst, ◌∙◌, ℕ, ◌<◌, Some, None, ap, sym, arith, inl, inr, append_assoc, ◌≢◌}
use C.{append-nil, Gave, most_reads, Fault, went_out_none, went_out_both, failed_within_both, gave_more, came_append}
use C.{Act, all_came, AttachedParts, fault_of, HaveLed, HaveLedUnwritten, HasRefusedByte, IsByteFault, HasTakenWaiting}
use C.{IsWaitingFault, HasHeard, IsHearFault, HasWritten, HasWrittenPrefix, IsUnheard, Refusal, At}
use Rattle.ws_code.specs.Device.{Devices}
use Rattle.ws_code.specs.declared.fault.Fault.TheVariants as fault
use Rattle.ws_end.specs.Behaviour.{Behaviour}

module _ {E S K Request Event : Type 0} (behaviour : Behaviour E Request Event) (devices : Devices S K)
  where
    abbrev Parts : Type 0
    Parts = AttachedParts E S K

    abbrev Led : Parts → Parts → List (Act Request) → List Event → Type 0
    Led = HaveLed behaviour devices

    -- a refusal is the fault that it is told as
    as_fault : (from to : Parts) (bytes : List ℕ) (byte : ℕ) (refusal : Refusal) (f : Fault) → f ≡ fault_of refusal
        → HasRefusedByte behaviour devices from to bytes byte f
        → IsByteFault behaviour devices from to bytes byte f
    as_fault from to bytes byte refusal f e h = rw e (known _ (rw (← e) h)) where
      known : (refusal : Refusal) → HasRefusedByte behaviour devices from to bytes byte
          (fault_of refusal)
          → IsByteFault behaviour devices from to bytes byte (fault_of refusal)
      known (At place reason) p = p
      known refusal p = p

    -- what was written in some acts
    pub has_led : (now from to : Parts) → from ≡ now → (acts : List (Act Request)) (events : List Event)
        → HasWritten behaviour devices.writer from.end to.end from.sink to.sink acts events → Led now to acts events
    has_led now from to is acts events h = rw (← is) (record { written = h.written; led = h.led; wrote = h.wrote })

    pub has_led_unwritten : (now from to : Parts) → from ≡ now → (acts : List (Act Request))
        → HasWrittenPrefix behaviour devices.writer from.end to.end from.sink to.sink acts
        → HaveLedUnwritten behaviour devices now to acts
    has_led_unwritten now from to is acts h =
        rw (← is) (record { written = h.written; events = h.events; led = h.led; failed = h.failed })

    -- bytes that don't come through
    pub unheard : (now from to : Parts) → from ≡ now → behaviour.traces from.end [] [] [] from.end → (bytes : List ℕ)
        (f : Fault) → IsUnheard behaviour devices.writer from.end to.end from.sink to.sink bytes f
        → (prefix : List ℕ) × (byte : ℕ) × (bytes ≡ prefix ++ byte ∷ [])
        × IsByteFault behaviour devices now to prefix byte f
    unheard now from to is stays bytes f (prefix, byte, split, inl h) =
        (prefix, byte, split, rw h.0 (rw split at (has_led_unwritten now from to is _ h.1)))
    unheard now from to is stays bytes f (prefix, byte, split, inr r) = (
      prefix,
      byte,
      split,
      as_fault now to prefix byte r.refusal f r.is (rw (← is) (record {
        heard = [];
        prefix = prefix;
        split = refl;
        written = [];
        before = from.end;
        led = stays;
        refusal = r.refusal;
        refused = r.refused;
        is = r.is;
        wrote = rw r.unwritten (went_out_none devices.writer from.sink);
      })),
    )

    module _ (follows : (a b c : E) (xs ys : List (Act Request)) (v w : List ℕ) (s t : List Event)
        → behaviour.traces a xs v s b → behaviour.traces b ys w t c → behaviour.traces a (xs ++ ys) (v ++ w) (s ++ t) c)
      where
        -- acts behind acts
        pub led_on : (a b c : Parts) (xs ys : List (Act Request)) (s t : List Event) → Led a b xs s → Led b c ys t
            → Led a c (xs ++ ys) (s ++ t)
        led_on a b c xs ys s t p q = record {
          written = p.written ++ q.written;
          led = follows a.end b.end c.end xs ys p.written q.written s t p.led q.led;
          wrote = went_out_both devices.writer a.sink b.sink c.sink p.written q.written p.wrote q.wrote;
        }

        pub bytes_led_on : (a b c : Parts) (xs ys : List ℕ) (t : List Event) → Led a b (all_came xs) []
            → Led b c (all_came ys) t → Led a c (all_came (xs ++ ys)) t
        bytes_led_on a b c xs ys t p q = rw (came_append xs ys) (led_on a b c _ _ [] t p q)

        unwritten_on : (a b c : Parts) (xs ys : List (Act Request)) (s : List Event) → Led a b xs s
            → HaveLedUnwritten behaviour devices b c ys
            → HaveLedUnwritten behaviour devices a c (xs ++ ys)
        unwritten_on a b c xs ys s p q = record {
          written = p.written ++ q.written;
          events = s ++ q.events;
          led = follows a.end b.end c.end xs ys p.written q.written s q.events p.led q.led;
          failed = rw (← append-nil q.written) (failed_within_both devices.writer a.sink b.sink c.sink p.written q.written
              [] p.wrote q.failed);
        }

        refused_on : (a b c : Parts) (xs ys : List ℕ) (byte : ℕ) (f : Fault) → Led a b (all_came xs) []
            → HasRefusedByte behaviour devices b c ys byte f
            → HasRefusedByte behaviour devices a c (xs ++ ys) byte f
        refused_on a b c xs ys byte f p q = record {
          heard = xs ++ q.heard;
          prefix = q.prefix;
          split = ap (λ z. xs ++ z) q.split ∙ sym (append_assoc xs q.heard q.prefix);
          written = p.written ++ q.written;
          before = q.before;
          led = rw (came_append xs q.heard) (follows a.end b.end q.before (all_came xs) (all_came q.heard) p.written
              q.written [] [] p.led q.led);
          refusal = q.refusal;
          refused = q.refused;
          is = q.is;
          wrote = went_out_both devices.writer a.sink b.sink c.sink p.written q.written p.wrote q.wrote;
        }

        pub fault_on : (a b c : Parts) (xs ys : List ℕ) (byte : ℕ) (f : Fault) → Led a b (all_came xs) []
            → IsByteFault behaviour devices b c ys byte f
            → IsByteFault behaviour devices a c (xs ++ ys) byte f
        fault_on a b c xs ys byte fault.Write p q = subst (λ (z : List (Act Request)). HaveLedUnwritten
            behaviour devices a c z) (sym (ap (λ z. all_came z) (append_assoc xs ys (byte ∷ []))
            ∙ came_append xs (ys ++ byte ∷ []))) (unwritten_on a b c _ _ [] p q)
        fault_on a b c xs ys byte f p q = refused_on a b c xs ys byte _ p q

        -- the loop over the bytes that wait
        led_at : (first now inside : Parts) (rest : List ℕ) (source : S) (xs : List ℕ) → inside ≡ now → Led first now
            (all_came xs) [] → Led first (record inside { waiting = rest; source = source }) (all_came xs) []
        led_at first now inside rest source xs is p =
            let q = rw (← is) at p in
            record { written = q.written; led = q.led; wrote = q.wrote }

        pub taking_starts : (e : (end : E) → behaviour.traces end [] [] [] end) (first : Parts) → Led first first [] []
        taking_starts e first = record { written = []; led = e first.end; wrote = went_out_none devices.writer first.sink }

        module _ (first now to : Parts) (xs : List ℕ) (led : Led first now (all_came xs) [])
            (left : first.waiting ≡ xs ++ now.waiting) (unread : now.source ≡ first.source) (same : to.source ≡ now.source)
          where
            left_on : (ys rest : List ℕ) → now.waiting ≡ ys ++ rest → first.waiting ≡ (xs ++ ys) ++ rest
            left_on ys rest next = left ∙ ap (λ z. xs ++ z) next ∙ sym (append_assoc xs ys rest)

            pub further : (t : List Event) (ys : List ℕ) → Led now to (all_came ys) t → now.waiting ≡ ys ++ to.waiting
                → Led first to (all_came (xs ++ ys)) t × (first.waiting ≡ (xs ++ ys) ++ to.waiting)
                × (to.source ≡ first.source)
            further t ys p next = (bytes_led_on first now to xs ys t led p, left_on ys to.waiting next, same ∙ unread)

            pub take_fails : (f : Fault) → IsWaitingFault behaviour devices now to f
                → IsWaitingFault behaviour devices first to f
            take_fails f p = (
              xs ++ p.0,
              p.1,
              fault_on first now to xs p.0 p.1 f led p.2,
              left_on p.0 (p.1 ∷ to.waiting) p.3,
              same ∙ unread,
            )

        -- the loop over the reads
        pub gave_none : (s : S) → Gave devices.reader s s 0 []
        gave_none s =
            record { reads = []; made = refl; counted = refl; within = omega arith; gave = refl; uncounted = refl }

        module _ (first now inside to : Parts) (is : inside ≡ now) (xs given : List ℕ) (reads : ℕ)
            (led : Led first now (all_came xs) []) (kept : first.waiting ++ given ≡ xs)
            (gave : Gave devices.reader first.source now.source reads given) (few : reads < most_reads) where
          module _ (piece : List ℕ) (source : S) (made : devices.reader.gives inside.source 4096 (Some piece) source)
              (uncounted : devices.reader.failures source ≡ devices.reader.failures inside.source) (some : piece ≢ []) where
            abbrev mid : Parts
            mid = record inside { waiting = piece; source = source }

            pub gave_on : Gave devices.reader first.source source (reads + 1) (given ++ piece)
            gave_on = gave_more devices.reader first.source inside.source source reads given 4096 piece
                (rw is gave) few made some uncounted

            kept_on : (ys : List ℕ) → piece ≡ ys ++ to.waiting → first.waiting ++ (given ++ piece) ≡ (xs ++ ys)
                ++ to.waiting
            kept_on ys e = sym (append_assoc first.waiting given piece) ∙ ap (λ z. z ++ piece) kept ∙ ap (λ z. xs ++ z) e
                ∙ sym (append_assoc xs ys to.waiting)

            pub reads_on : HasTakenWaiting behaviour devices
                (record inside { waiting = piece; source = source }) to None
                → (ys : List ℕ) × Led first to (all_came ys) [] × (first.waiting ++ (given ++ piece) ≡ ys)
                × (to.waiting ≡ []) × Gave devices.reader first.source to.source (reads + 1) (given ++ piece)
            reads_on p = (
              xs ++ p.0,
              bytes_led_on first mid to xs p.0 [] (led_at first now inside piece source xs is led) p.1,
              kept_on p.0 p.2 ∙ ap (λ z. (xs ++ p.0) ++ z) p.4 ∙ append-nil (xs ++ p.0),
              p.4,
              rw p.3 gave_on,
            )

            pub reads_heard : (event : Event) → HasTakenWaiting behaviour devices
                (record inside { waiting = piece; source = source }) to (Some event)
                → HasHeard behaviour devices first to (Some event)
            reads_heard event p = (
              xs ++ p.0,
              given ++ piece,
              reads + 1,
              bytes_led_on first mid to xs p.0 _ (led_at first now inside piece source xs is led) p.1,
              kept_on p.0 p.2,
              rw p.3 gave_on,
            )

            pub reads_fail : (f : Fault) → IsWaitingFault behaviour devices
                (record inside { waiting = piece; source = source }) to f
                → IsHearFault behaviour devices first to f
            reads_fail f p = inr (
              xs ++ p.0,
              p.1,
              given ++ piece,
              reads + 1,
              fault_on first mid to xs p.0 p.1 f (led_at first now inside piece source xs is led) p.2,
              sym (append_assoc first.waiting given piece) ∙ ap (λ z. z ++ piece) kept ∙ ap (λ z. xs ++ z) p.3
                  ∙ sym (append_assoc xs p.0 (p.1 ∷ to.waiting)),
              rw p.4 gave_on,
            )

        -- before the first read
        pub at_once : (first to : Parts) → HasTakenWaiting behaviour devices first to None
            → (ys : List ℕ) × Led first to (all_came ys) [] × (first.waiting ++ [] ≡ ys) × (to.waiting ≡ [])
            × Gave devices.reader first.source to.source 0 []
        at_once first to p =
            (p.0, p.1, append-nil first.waiting ∙ p.2 ∙ ap (λ z. p.0 ++ z) p.4 ∙ append-nil p.0, p.4, rw p.3 (gave_none _))

        pub heard_at_once : (first to : Parts) (event : Event) → HasTakenWaiting behaviour devices first to
            (Some event) → HasHeard behaviour devices first to (Some event)
        heard_at_once first to event p = (p.0, [], 0, p.1, append-nil first.waiting ∙ p.2, rw p.3 (gave_none _))

        pub fails_at_once : (first to : Parts) (f : Fault) → IsWaitingFault behaviour devices first to
            f → IsHearFault behaviour devices first to f
        fails_at_once first to f p = inr (p.0, p.1, [], 0, p.2, append-nil first.waiting ∙ p.3, rw p.4 (gave_none _))

        pub hearing_endless : (first now : Parts) (xs given : List ℕ) (reads : ℕ) → reads ≡ most_reads
            → Led first now (all_came xs) [] → (first.waiting ++ given ≡ xs) → (now.waiting ≡ []) → Gave devices.reader
            first.source now.source reads given → IsHearFault behaviour devices first now fault.Read
        hearing_endless first now xs given reads all led kept none gave =
            inl (refl, (xs, given, led, kept, none, inr (rw (← all) gave)))
