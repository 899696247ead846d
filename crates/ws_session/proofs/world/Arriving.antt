-- Bytes that arrive at an end, piece by piece.

use Rattle.ws_session.proofs.Common as C
use C.{flat_map, ◌≡◌, ◌+◌, ◌≤◌, List, [], ◌∷◌, ◌++◌, refl, subst, ◌∙◌, ℕ, ◌<◌, Option, Some, None, take, drop, ap, sym}
use C.{arith, ◌^◌, min, inl, inr, length, append_assoc, add-zero, length-append, length-drop, length-take, ◌-◌}
use C.{take-add, cases_lt, flat_map-append, length-take-le, append-nil, take_all, take-take, drop-drop, came_append}
use C.{Act, all_came, Refusal, At, Event, Through, WireParts, reported, HasMemory, Comes, AreDelivered}
use Rattle.ws_end.specs.Behaviour.{Behaviour}
use Rattle.ws_session.specs.world.Wires.{AtEnd, HasCome, Telling}
use Rattle.ws_session.proofs.world.Crossed.{past}

module _ {E Request EndEvent : Type 0} (behaviour : Behaviour E Request EndEvent) (telling : Telling EndEvent) where
  -- bytes at which the end goes on
  pub traces_come : (old new : E) (bytes : List ℕ) (reply : List ℕ)
      (end_events : List EndEvent) (to to' : WireParts) (events events' : List Event) → behaviour.traces old
      (all_came bytes) reply end_events new → (behaviour.over old → ⊥) → to' ≡ record to { bytes = to.bytes ++ reply }
      → events' ≡ events ++ flat_map telling.tells end_events → HasCome behaviour telling old bytes new to to' events
      events'
  traces_come old new bytes reply end_events to to' events events' led works t e = record {
    written = reply;
    events = flat_map telling.tells end_events;
    comes = record {
      end_events = end_events;
      why = None;
      through = led;
      reports = refl;
      has_memory = tt;
      stays = λ o. absurd (works o);
    };
    to_is = t;
    told_is = e;
  }

  -- bytes of which it refuses one
  pub refused_come : (stays : (e : E) → behaviour.traces e [] [] [] e) (old new : E) (bytes prefix after : List ℕ)
      (byte : ℕ) (why : Refusal) → bytes ≡ prefix ++ byte ∷ after
      → HasMemory (Some why) → (to : WireParts) (events events' : List Event)
      → behaviour.refuses old prefix byte why new → behaviour.over new →
      (behaviour.over old → (new ≡ old) × (reported behaviour telling [] (Some why) ≡ [])) → events' ≡ events
      ++ reported behaviour telling [] (Some why) → HasCome behaviour telling old bytes new to to events events'
  refused_come stays old new bytes prefix after byte why split memory to events events' r o same e = record {
    written = [];
    events = reported behaviour telling [] (Some why);
    comes = record {
      end_events = [];
      why = Some why;
      through = record {
        before = [];
        prefix = prefix;
        byte = byte;
        after = after;
        split = split;
        last = old;
        led = stays old;
        refused = r;
        is_over = o;
      };
      reports = refl;
      has_memory = memory;
      stays = λ p. ((same p).0, refl, (same p).1);
    };
    to_is = rw (append-nil to.bytes);
    told_is = e;
  }

  -- no byte
  pub none_comes : ((e : E) → behaviour.traces e [] [] [] e) → (e : E) → Comes behaviour telling e [] e [] []
  none_comes stays e = record {
    end_events = [];
    why = None;
    through = stays e;
    reports = refl;
    has_memory = tt;
    stays = λ o. (refl, refl, refl);
  }

  reported_behind : (end_events more : List EndEvent) (why : Option Refusal) → flat_map telling.tells end_events
      ++ reported behaviour telling more why ≡ reported behaviour telling (end_events ++ more) why
  reported_behind end_events more None = sym (flat_map-append telling.tells end_events more)
  reported_behind end_events more (Some (At place reason)) =
      sym (append_assoc (flat_map telling.tells end_events) (flat_map telling.tells more)
      (telling.refusal place reason ∷ [])) ∙ ap (λ z. z ++ telling.refusal place reason ∷ [])
      (sym (flat_map-append telling.tells end_events more))
  reported_behind end_events more (Some why) = sym (flat_map-append telling.tells end_events more)

  module _ (follows : (a b c : E) (xs ys : List (Act Request)) (v w : List ℕ) (s t : List EndEvent)
      → behaviour.traces a xs v s b → behaviour.traces b ys w t c → behaviour.traces a (xs ++ ys) (v ++ w) (s ++ t) c)
    where
      -- bytes, and then further ones
      pub come_on : (a b c : E) (xs ys : List ℕ) (v w : List ℕ) (s t : List Event)
          → Comes behaviour telling a xs b v s → Comes behaviour telling b ys c w t
          → Comes behaviour telling a (xs ++ ys) c (v ++ w) (s ++ t)
      come_on a b c xs ys v w s t p q = first p.why p.through p.reports p.has_memory where
        both : behaviour.over a → (c ≡ a) × (v ++ w ≡ []) × (s ++ t ≡ [])
        both o =
            let n = p.stays o in
            let m = q.stays (subst behaviour.over (sym n.0) o) in
            (m.0 ∙ n.0, ap (λ z. z ++ w) n.1 ∙ m.1, ap (λ z. z ++ t) n.2 ∙ m.2)

        second : (why : Option Refusal) → Through behaviour b ys w q.end_events why c
            → t ≡ reported behaviour telling q.end_events why → HasMemory why
            → behaviour.traces a (all_came xs) v p.end_events b → s ≡ flat_map telling.tells p.end_events
            → Comes behaviour telling a (xs ++ ys) c (v ++ w) (s ++ t)
        second None h f memory g e = record {
          end_events = p.end_events ++ q.end_events;
          why = None;
          through = subst (λ (z : List (Act Request)). behaviour.traces a z (v ++ w) (p.end_events ++ q.end_events) c)
              (sym (came_append xs ys)) (follows a b c (all_came xs) (all_came ys) v w p.end_events q.end_events g h);
          reports = rw (e, f) (reported_behind p.end_events q.end_events None);
          has_memory = tt;
          stays = both;
        }
        second (Some why) h f memory g e = record {
          end_events = p.end_events ++ q.end_events;
          why = Some why;
          through = record {
            before = xs ++ h.before;
            prefix = h.prefix;
            byte = h.byte;
            after = h.after;
            split = ap (λ z. xs ++ z) h.split ∙ sym (append_assoc xs h.before (h.prefix ++ h.byte ∷ h.after));
            last = h.last;
            led = rw (came_append xs h.before) (follows a b h.last (all_came xs)
                (all_came h.before) v w p.end_events q.end_events g
                h.led);
            refused = h.refused;
            is_over = h.is_over;
          };
          reports = rw (e, f) (reported_behind p.end_events q.end_events (Some why));
          has_memory = memory;
          stays = both;
        }

        first : (why : Option Refusal) → Through behaviour a xs v p.end_events why b
            → s ≡ reported behaviour telling p.end_events why → HasMemory why
            → Comes behaviour telling a (xs ++ ys) c (v ++ w) (s ++ t)
        first None g e memory = second q.why q.through q.reports q.has_memory g e
        first (Some why) h e memory =
            let n = q.stays h.is_over in
            record {
              end_events = p.end_events;
              why = Some why;
              through = rw (n.0, n.1, append-nil v) (record {
                before = h.before;
                prefix = h.prefix;
                byte = h.byte;
                after = h.after ++ ys;
                split = ap (λ z. z ++ ys) h.split ∙ append_assoc h.before (h.prefix ++ h.byte ∷ h.after) ys
                    ∙ ap (λ z. h.before ++ z) (append_assoc h.prefix (h.byte ∷ h.after) ys);
                last = h.last;
                led = h.led;
                refused = h.refused;
                is_over = h.is_over;
              });
              reports = rw (n.2, append-nil s) e;
              has_memory = memory;
              stays = both;
            }

  pub none_delivered : ((e : E) → behaviour.traces e [] [] [] e) → (now : AtEnd E)
      → length now.from.bytes + 1 < 2 ^ 64 → AreDelivered behaviour telling now 0 now
  none_delivered stays now few = record {
    bytes = [];
    first = refl;
    few = few;
    come = record {
      written = [];
      events = [];
      comes = none_comes stays now.end;
      to_is = rw (append-nil now.to.bytes);
      told_is = sym (append-nil now.events);
    };
    from_is = rw (add-zero now.from.at);
  }

  module _ (old mid : AtEnd E) (n : ℕ) (d : AreDelivered behaviour telling old n mid) where
    -- so many came, and no byte more was written
    came : (mid.from.at ≡ old.from.at + min n (length old.from.bytes - old.from.at))
        × (length mid.from.bytes ≡ length old.from.bytes)
        × (length d.bytes ≡ min n (length old.from.bytes - old.from.at))
    came =
        let size : length d.bytes ≡ min n (length old.from.bytes - old.from.at) = ap (λ z. length z) d.first
        ∙ length-take n (drop old.from.at old.from.bytes)
        ∙ ap (min n) (length-drop old.from.at old.from.bytes) in
        (rw (d.from_is, size), ap (λ (z : WireParts). length z.bytes) d.from_is, size)

    -- others wait
    pub more_wait : (k left : ℕ) → old.from.at + k ≡ length old.from.bytes → n + left ≤ k
        → mid.from.at + left ≤ length mid.from.bytes
    more_wait k left all more = omega (arith, all, more, came)

    -- all have come
    pub all_delivered : (m : ℕ) → n ≤ m → length mid.from.bytes ≤ mid.from.at → AreDelivered behaviour telling old m mid
    all_delivered m le all =
        let rest : List ℕ = drop old.from.at old.from.bytes in
        let whole : length rest ≤ n = omega (arith, all, came, length-drop old.from.at old.from.bytes) in
        record {
          bytes = d.bytes;
          few = d.few;
          come = d.come;
          from_is = d.from_is;
          first = d.first ∙ take_all n rest whole ∙ sym (take_all m rest (omega (arith, whole, le)));
        }

    -- so many, or all that were in flight
    pub all_come : (k m : ℕ) → old.from.at + k ≡ length old.from.bytes → n ≡ min m k
        → AreDelivered behaviour telling old m mid
    all_come k m all is = elim (cases_lt m k) [
      | inl h ↦ rw (← (let q : n ≡ m = omega (arith, is, h) in q)) d
      | inr h ↦ all_delivered m (omega (arith, is, h)) (omega (arith, h, is, all, came))
    ]

    module _ (follows : (a b c : E) (xs ys : List (Act Request)) (v w : List ℕ) (s t : List EndEvent)
        → behaviour.traces a xs v s b → behaviour.traces b ys w t c → behaviour.traces a (xs ++ ys) (v ++ w) (s ++ t) c)
        (new : AtEnd E) where
      -- so many more
      pub more_delivered : (m : ℕ) → AreDelivered behaviour telling mid m new
          → AreDelivered behaviour telling old (n + m) new
      more_delivered m e =
          let rest : List ℕ = drop old.from.at old.from.bytes in
          let next : drop mid.from.at mid.from.bytes ≡ drop n rest =
          ap (λ (z : WireParts). drop z.at z.bytes) d.from_is
          ∙ sym (drop-drop (length d.bytes) old.from.at old.from.bytes)
          ∙ ap (λ (z : List ℕ). drop (length z) rest) d.first ∙ past n rest in
          let joined : (old.from.at + length d.bytes) + length e.bytes ≡ old.from.at + length (d.bytes ++ e.bytes) =
          omega (arith, length-append d.bytes e.bytes) in
          record {
            bytes = d.bytes ++ e.bytes;
            first = ap (λ z. z ++ e.bytes) d.first
                ∙ ap (λ z. take n rest ++ z) (e.first ∙ ap (take m) next) ∙ sym (take-add n m rest);
            few = d.few;
            come = record {
              written = d.written ++ e.written;
              events = d.events ++ e.events;
              comes = come_on follows old.end mid.end new.end d.bytes e.bytes d.written e.written d.events e.events
                  d.comes e.comes;
              to_is = rw (e.to_is, d.to_is, append_assoc old.to.bytes d.written e.written);
              told_is = rw (e.told_is, d.told_is, append_assoc old.events d.events e.events);
            };
            from_is = rw (e.from_is, d.from_is, joined);
          }

      -- a piece more
      pub some_delivered : (k left used : ℕ) → old.from.at + k ≡ length old.from.bytes → n + left ≤ k → used ≤ left
          → (xs : List ℕ) → xs ≡ take used (take left (drop mid.from.at mid.from.bytes))
          → new.from ≡ record mid.from { at = mid.from.at + used }
          → HasCome behaviour telling mid.end xs new.end mid.to new.to mid.events new.events
          → AreDelivered behaviour telling old (n + used) new
      some_delivered k left used all more within xs is on h =
          let flight : List ℕ = drop mid.from.at mid.from.bytes in
          let piece : xs ≡ take used flight = is ∙ take-take used left flight within in
          let size : length xs ≡ used = ap (λ z. length z) piece ∙ length-take-le used flight (omega (
            arith,
            length-drop mid.from.at mid.from.bytes,
            more_wait k left all more,
            within,
          )) in
          more_delivered used (record {
            bytes = xs;
            first = piece;
            few = rw (came.1) d.few;
            come = h;
            from_is = rw size on;
          })
