-- Laws of what a station that no record ends does at acts, one after another.

use Rattle.std.proofs.Common.{◌≡◌, ℕ, List, [], ◌∷◌, ◌++◌, refl, sym, ap, ◌∙◌, subst, append_assoc, arith, length, length-append, ◌+◌, Option}
use Rattle.ws_end.specs.ActLaws.{bytes_append}
use Rattle.ws_end.specs.Acts.{Act, Came, Did, bytes_of}
use Rattle.ws_end.specs.Ends.{IsShut}
use Rattle.ws_end.specs.station.Displays.{OnDisplay}
use Rattle.ws_lasting.specs.Behaviour.{LastingTraces, LeadsOnFrom}
use Rattle.ws_lasting.specs.Counting.{IsCounted, carried_out_in, refused_in, last_refused}
use Rattle.ws_lasting.specs.Footings.{LastingOf, StandsAt}
use Rattle.ws_lasting.specs.Lasting.{FootingOn, Lasts}
use Rattle.ws_lasting.specs.declared.record_counts.RecordCounts.{RecordCounts}
use Rattle.ws_lasting.specs.declared.record_event.RecordEvent.{RecordEvent}
use Rattle.ws_lasting.specs.declared.record_event.RecordEvent.TheVariants.{CarriedOut, Refused}
use Rattle.ws_lasting.specs.declared.record_event.RefusedRecord.{RefusedRecord}

carried_both : (s t : List RecordEvent) → carried_out_in (s ++ t) ≡ carried_out_in s + carried_out_in t
carried_both [] t = omega arith
carried_both (CarriedOut ∷ s) t = omega (arith, carried_both s t)
carried_both (Refused why ∷ s) t = carried_both s t

refused_both : (s t : List RecordEvent) → refused_in (s ++ t) ≡ refused_in s + refused_in t
refused_both [] t = omega arith
refused_both (CarriedOut ∷ s) t = refused_both s t
refused_both (Refused why ∷ s) t = omega (arith, refused_both s t)

last_both : (s t : List RecordEvent) (last : Option RefusedRecord)
    → last_refused last (s ++ t) ≡ last_refused (last_refused last s) t
last_both [] t last = refl
last_both (CarriedOut ∷ s) t last = last_both s t last
last_both (Refused why ∷ s) t last = last_both s t _

-- those that were told of in two parts are counted in two
pub counted_both : (a b c : RecordCounts) (s t : List RecordEvent) → IsCounted a s b → IsCounted b t c
    → IsCounted a (s ++ t) c
counted_both a b c s t p q = record {
  carried_out = λ few.
      let n = carried_both s t in
      let one = p.carried_out (omega (arith, few, n)) in
      let two = q.carried_out (omega (arith, few, n, one)) in
      omega (arith, n, one, two);
  refused = λ few.
      let n = refused_both s t in
      let one = p.refused (omega (arith, few, n)) in
      let two = q.refused (omega (arith, few, n, one)) in
      omega (arith, n, one, two);
  last = q.last ∙ ap (λ (l : Option RefusedRecord). last_refused l t) p.last ∙ sym (last_both s t a.last);
}

pub counted_none : (counts : RecordCounts) → IsCounted counts [] counts
counted_none counts = record { carried_out = λ few. omega arith; refused = λ few. omega arith; last = refl }

module _ (on : OnDisplay) where
  -- acts, and others from where they lead
  pub lasts_both : (xs ys : List (Act on.Pressed)) (at mid next : FootingOn on) (v w : List ℕ) (s t : List RecordEvent)
      → Lasts on at xs mid v s → Lasts on mid ys next w t → Lasts on at (xs ++ ys) next (v ++ w) (s ++ t)
  lasts_both [] ys at mid next v w s t a b = rw (sym a.0, a.1, a.2) b
  lasts_both (Came byte ∷ xs) ys at mid next v w s t a b = (
    a.0,
    a.1,
    a.2 ++ w,
    a.3,
    a.4 ++ t,
    a.5,
    lasts_both xs ys a.0 mid next a.2 w a.4 t a.6 b,
    ap (λ z. z ++ w) a.7 ∙ append_assoc a.1 a.2 w,
    ap (λ z. z ++ t) a.8 ∙ append_assoc a.3 a.4 t,
  )
  lasts_both (Did key ∷ xs) ys at mid next v w s t a b = (
    a.0 ++ w,
    lasts_both xs ys _ mid next a.0 w s t a.1 b,
    ap (λ z. z ++ w) a.2 ∙ append_assoc _ a.0 w,
  )

  -- acts that lead on, and others that do
  pub leads_both : (a b c : LastingOf on) (at : FootingOn on) (xs ys : List (Act on.Pressed)) (v w : List ℕ)
      (s t : List RecordEvent) → (l : LeadsOnFrom on a b at xs v s) → LeadsOnFrom on b c l.0 ys w t
      → LeadsOnFrom on a c at (xs ++ ys) (v ++ w) (s ++ t)
  leads_both a b c at xs ys v w s t l m = (
    m.0,
    lasts_both xs ys at l.0 m.0 v w s t l.1 m.1,
    m.2,
    counted_both a.counts b.counts c.counts s t l.3 m.3,
    (let n = ap length (bytes_append xs ys) in omega (arith, l.4, m.4, n, length-append (bytes_of xs) (bytes_of ys))),
  )

  pub leads_none : (a : LastingOf on) (at : FootingOn on) → StandsAt on a at → LeadsOnFrom on a a at [] [] []
  leads_none a at st = (at, (refl, refl, refl), st, counted_none a.counts, omega arith)

  -- without an act it stays where it is
  pub lasting_stays : (e : LastingOf on) → LastingTraces on e [] [] [] e
  lasting_stays e = record {
    led = λ at st few. leads_none e at st;
    shut = λ h. record { no_byte = refl; same = refl; unwritten = refl; no_event = refl };
  }

  -- acts go on where others have led
  pub lasting_follows : (a b c : LastingOf on) (xs ys : List (Act on.Pressed)) (v w : List ℕ) (s t : List RecordEvent)
      → LastingTraces on a xs v s b → LastingTraces on b ys w t c → LastingTraces on a (xs ++ ys) (v ++ w) (s ++ t) c
  lasting_follows a b c xs ys v w s t p q = record {
    led = λ at st few.
        let n = ap (λ z. length z) (bytes_append xs ys) in
        let m = length-append (bytes_of xs) (bytes_of ys) in
        let l = p.led at st (omega (arith, few, n, m)) in
        leads_both a b c at xs ys v w s t l (q.led l.0 l.2 (omega (arith, few, n, m, l.4)));
    shut = λ h.
        let n = p.shut h in
        let m = q.shut (subst (λ (z : LastingOf on). IsShut z.ended z.taken) (sym n.same) h) in record {
          no_byte = bytes_append xs ys ∙ ap (λ z. z ++ bytes_of ys) n.no_byte ∙ m.no_byte;
          same = m.same ∙ n.same;
          unwritten = ap (λ z. z ++ w) n.unwritten ∙ m.unwritten;
          no_event = ap (λ z. z ++ t) n.no_event ∙ m.no_event;
        };
  }
