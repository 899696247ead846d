-- Nothing was told before the last of the bytes that were taken.

use Rattle.ws_end.proofs.Common as C
use C.{◌≡◌, ◌≤◌, List, [], ◌++◌, refl, subst, ◌∙◌, ℕ, ◌<◌, Option, Some, None, take, ap, sym, arith, length}
use C.{append_assoc, Err, Ok, Result, length-take-le, append-nil, take-take, Reader, Gave, Fault, came_append, Act}
use C.{all_came, as_list, AttachedParts, fault_of, Refusal, At}
use Rattle.ws_code.specs.declared.fault.Fault.TheVariants as fault
use Rattle.ws_end.specs.Behaviour.{Behaviour}
use Rattle.ws_end.specs.attached.Attachments.{IfEvents, TellsAtLast, TakesFirst, HearsFirst}

-- of what was told something else holds
pub if_events_on : {Event : Type 0} (P Q : List Event → Type 0) (result : Result (Option Event) Fault)
    → ((events : List Event) → P events → Q events) → IfEvents result P → IfEvents result Q
if_events_on P Q (Ok (Some event)) on p = on _ p
if_events_on P Q (Ok None) on p = tt
if_events_on P Q (Err fault.Write) on p = (p.0, on p.0 p.1)
if_events_on P Q (Err why) on p = tt

-- where it is so of what was told or not
pub if_events_ok : {Event : Type 0} (P : List Event → Type 0) (events : Option Event) → P (as_list events)
    → IfEvents (Ok events) P
if_events_ok P (Some event) p = p
if_events_ok P None p = tt

-- nothing is told at a byte that is refused
pub untold_refusal : {Event : Type 0} (P : List Event → Type 0) (why : Fault) (refusal : Refusal)
    → why ≡ fault_of refusal → IfEvents {Event = Event} (Err why) P
untold_refusal {Event} P why refusal is = rw is (known refusal) where
  known : (refusal : Refusal) → IfEvents {Event = Event} (Err (fault_of refusal)) P
  known (At place reason) = tt
  known refusal = tt

module _ {E Request Event : Type 0} (behaviour : Behaviour E Request Event) where
  -- so many bytes of a piece, of which nothing is told before the last
  pub tells_at_once : (old new : E) (piece : List ℕ) (used : ℕ) (written : List ℕ) (events : List Event)
      → used ≤ length piece → behaviour.traces old [] [] [] old → behaviour.traces old
      (all_came (take used piece)) written events new → ((n : ℕ) → n < used → behaviour.silent old (take n piece))
      → TellsAtLast behaviour old new (take used piece) events
  tells_at_once old new piece used written events within stays led first = record {
    heard = [];
    others = take used piece;
    split = refl;
    before = old;
    written = [];
    led = stays;
    later = written;
    led_on = led;
    first = λ n few.
        let lt : n < used = omega (arith, few, length-take-le used piece within) in
        rw (take-take n used piece (omega (arith, lt))) (first n lt);
  }

  -- of the bytes that waited
  pub takes_first : {S K : Type 0} (now from to : AttachedParts E S K) → from ≡ now → (bytes : List ℕ)
      → now.waiting ≡ bytes ++ to.waiting → to.source ≡ now.source → (events : List Event)
      → TellsAtLast behaviour from.end to.end bytes events → TakesFirst behaviour now to events
  takes_first {S} {K} now from to is bytes kept unread events tells = record {
    bytes = bytes;
    tells = subst (λ (z : AttachedParts E S K). TellsAtLast behaviour z.end to.end bytes events) is tells;
    kept = kept;
    unread = unread;
  }

  module _ (follows : (a b c : E) (xs ys : List (Act Request)) (v w : List ℕ) (s t : List Event)
      → behaviour.traces a xs v s b → behaviour.traces b ys w t c → behaviour.traces a (xs ++ ys) (v ++ w) (s ++ t) c)
    where
      -- behind bytes at which nothing was told
      tells_behind : (a b c : E) (xs ys w : List ℕ) (events : List Event) → behaviour.traces a (all_came xs) w [] b
          → TellsAtLast behaviour b c ys events → TellsAtLast behaviour a c (xs ++ ys) events
      tells_behind a b c xs ys w events led t = record {
        heard = xs ++ t.heard;
        others = t.others;
        split = ap (λ z. xs ++ z) t.split ∙ sym (append_assoc xs t.heard t.others);
        before = t.before;
        written = w ++ t.written;
        led = rw (came_append xs t.heard) (follows a b t.before (all_came xs) (all_came t.heard) w t.written [] [] led
            t.led);
        later = t.later;
        led_on = t.led_on;
        first = t.first;
      }

      module _ {S K : Type 0} where
        pub takes_behind : (a b c : AttachedParts E S K) (xs w : List ℕ) → behaviour.traces a.end (all_came xs) w [] b.end
            → a.waiting ≡ xs ++ b.waiting → b.source ≡ a.source → (events : List Event) → TakesFirst behaviour b c events
            → TakesFirst behaviour a c events
        takes_behind a b c xs w led left same events p = record {
          bytes = xs ++ p.bytes;
          tells = tells_behind a.end b.end c.end xs p.bytes w events led p.tells;
          kept = left ∙ ap (λ z. xs ++ z) p.kept ∙ sym (append_assoc xs p.bytes c.waiting);
          unread = p.unread ∙ same;
        }

        -- before the first read
        pub hears_at_once : (reader : Reader S) (a c : AttachedParts E S K) (events : List Event)
            → TakesFirst behaviour a c events → HearsFirst behaviour reader a c events
        hears_at_once reader a c events p = record {
          bytes = p.bytes;
          given = [];
          reads = 0;
          tells = p.tells;
          kept = append-nil a.waiting ∙ p.kept;
          gave = rw p.unread (record {
            reads = [];
            made = refl;
            counted = refl;
            within = omega arith;
            gave = refl;
            uncounted = refl;
          });
        }

        -- behind a read
        pub hears_behind : (reader : Reader S) (a now inside c : AttachedParts E S K) → inside ≡ now
            → (xs given w piece : List ℕ) (source : S) (reads : ℕ) → behaviour.traces a.end (all_came xs) w [] now.end
            → a.waiting ++ given ≡ xs → Gave reader a.source source reads (given ++ piece) → (events : List Event)
            → TakesFirst behaviour (record inside { waiting = piece; source = source }) c events
            → HearsFirst behaviour reader a c events
        hears_behind reader a now inside c is xs given w piece source reads led left gave events p = record {
          bytes = xs ++ p.bytes;
          given = given ++ piece;
          reads = reads;
          tells = tells_behind a.end inside.end c.end xs p.bytes w events (rw is led) p.tells;
          kept = sym (append_assoc a.waiting given piece) ∙ ap (λ z. z ++ piece) left ∙ ap (λ z. xs ++ z) p.kept
              ∙ sym (append_assoc xs p.bytes c.waiting);
          gave = rw p.unread gave;
        }
