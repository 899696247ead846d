-- What feeds of a driver come to, one after another

use Rattle.std.specs.Prelude.{◌&&◌, is_some}
use Rattle.std.proofs.Common.{◌≡◌, ℕ, ◌+◌, ◌<◌, ◌≤◌, inl, inr, List, [], ◌++◌, Bool, true, false, Option, Some, None, IsSome}
use Rattle.std.proofs.Common.{Ok}
use Rattle.std.proofs.Common.{Err, Result, length, take, drop, refl, ap, subst, sym, ◌∙◌, arith, length-append}
use Rattle.std.proofs.Math.Seq.{take-add}
use Rattle.std.proofs.lemmas.Bool.{cases_lt}
use Rattle.std.proofs.lemmas.List.{append-nil, length-drop, length-take-le, take-take}
use Rattle.ws_record.specs.declared.record.Item.{Item}
use Rattle.ws_end.specs.ActLaws.{came_append, trace_on}
use Rattle.ws_end.specs.Acts.{Act, IsTrace, all_came, as_list, protocol_of}
use Rattle.ws_end.specs.declared.end_step.EndFed.{EndFed}
use Rattle.ws_end.specs.declared.end_step.EndStep.{EndStep}
use Rattle.ws_end.specs.driver.Driven.{AreSilent, AtDriver, Come, Driven, DriverFeeds, Driving, IsReached, TakesNoMore}
use Rattle.ws_end.specs.driver.Driven.{transitions_of}
use Rattle.ws_end.specs.declared.refusal.Refusal.{Refusal}
use Rattle.ws_end.proofs.Feedings.{none_come}
use Rattle.ws_c.specs.Pushes.{BringsAtMost, FrontTaken, HasToldAlone, first_bytes, refused_step}

module _ {R K Place U Deed Event Reply : Type 0} (d : Driving R K Place U Deed Event Reply) where
  -- none of the bytes was taken
  pub takes_none : (IsTold : List Event → Type 0) → IsTold [] → (end : Driven R K Place) (bytes : List ℕ)
      → FrontTaken d IsTold end (first_bytes bytes 0) [] end
  takes_none IsTold untold end bytes = record {
    taken = λ before items side l. (
      [],
      untold,
      none_come d.rules d.does.out (transitions_of d) (IsReached d end) before items side l,
    );
    counted = omega arith;
    works = λ some shut. absurd (omega (arith, some));
    none = λ e. (refl, refl);
  }

  -- what comes after a front
  come_after : (Then : List ℕ → List (Item U) → d.does.State → Type 0) (now : Driven R K Place) (bytes : List ℕ)
      (n k : ℕ) (before : List ℕ) (items : List (Item U)) (side : d.does.State) (written reply : List ℕ)
      (told more : List Event) → Come d (IsReached d now) before items side (take n bytes) written told
      → AtDriver d now (λ b its s. Come d Then b its s (take k (drop n bytes)) reply more)
      → Come d Then before items side (take (n + k) bytes) (written ++ reply) (told ++ more)
  come_after Then now bytes n k before items side written reply told more gone next =
      subst (λ (z : List (Act Deed)). IsTrace (protocol_of d.rules d.does.out (transitions_of d)) Then before items side z
      (written ++ reply) (told ++ more)) (sym (came_append (take n bytes) (take k (drop n bytes)))
      ∙ ap (λ (x : List ℕ). all_came {Request = Deed} x) (sym (take-add n k bytes)))
      (trace_on (protocol_of d.rules d.does.out (transitions_of d)) (IsReached d now) Then before items side
      (all_came (take n bytes)) (all_came (take k (drop n bytes))) written reply told more gone
      (λ b its s m size. next b its s m))

  -- what bytes bring after these that bring nothing
  pub brings_at_most : (IsTold : List Event → Type 0) (old now : Driven R K Place) (bytes : List ℕ) (n j : ℕ)
      (written : List ℕ) (most : ℕ) → FrontTaken d IsTold old (first_bytes bytes n) written now
      → AtDriver d now (λ b its s. AreSilent d b its s (take j (drop n bytes))) → length written ≤ most
      → BringsAtMost d IsTold old (first_bytes bytes (n + j)) most
  brings_at_most IsTold old now bytes n j written most t silent few = λ before items side l.
      (let p = t.taken before items side l in (
        written ++ [],
        p.0 ++ [],
        subst IsTold (sym (append-nil p.0)) p.1,
        come_after (λ b its s. Unit {0}) now bytes n j before items side written [] p.0 [] p.2 silent,
        omega (arith, few, length-append written []),
      ))

  module _ (old now new : Driven R K Place) (bytes : List ℕ) (n : ℕ) (inside : n < length bytes)
      (fed : EndFed Event Reply) (step : EndStep Event Reply) (is : fed.step ≡ Ok step)
      (f : DriverFeeds d now (drop n bytes) new fed) where
    -- it isn't stopped
    works : TakesNoMore now → ⊥
    works shut = cc (is, (f.stopped shut).0)

    pub some_fed : 0 < fed.used
    some_fed = f.some (omega (arith, length-drop n bytes, inside)) (λ e. cc (is, e))

    -- more of them are
    pub takes_on : (IsTold IsToldNow : List Event → Type 0) (written : List ℕ)
        → ((told : List Event) → IsTold told → IsToldNow (told ++ as_list step.event))
        → FrontTaken d IsTold old (first_bytes bytes n) written now → FrontTaken d IsToldNow old
        (first_bytes bytes (n + fed.used)) (written ++ d.does.written new.reacts step.reply) new
    takes_on IsTold IsToldNow written more t =
        let k : ℕ = fed.used in
        let g = f.takes works in
        record {
          taken = λ before items side l. (let p = t.taken before items side l in (
            p.0 ++ as_list step.event,
            more p.0 p.1,
            come_after (IsReached d new) now bytes n k before items side written
                (d.does.written new.reacts step.reply) p.0 (as_list step.event) p.2
                (λ b its s m. rw is at (g.brings b its s m)),
          ));
          counted = omega (arith, t.counted, g.counted, length-take-le k (drop n bytes) f.within);
          works = λ _ shut. elim (cases_lt 0 n) [
            | inl lt ↦ t.works lt shut
            | inr ge ↦ works (subst (λ (s : Driven R K Place). TakesNoMore s) (sym (t.none (omega (arith, ge))).0) shut)
          ];
          none = λ z. absurd (omega (arith, z, some_fed));
        }

    -- nothing came before the last of them
    pub silent_before : (j : ℕ) → j < fed.used → AtDriver d now (λ b its s. AreSilent d b its s (take j (drop n bytes)))
    silent_before j less b its s l = rw (take-take j fed.used (drop n bytes) (omega (arith, less)))
        at ((f.takes works).first b its s l j (omega (arith, less, length-take-le fed.used (drop n bytes) f.within)))

-- a feed whose last byte is refused, as it was
pub refused_fed : {Event Reply : Type 0} (fed : EndFed Event Reply) (why : Refusal) → fed.step ≡ Err why
    → fed ≡ refused_step fed.used why
refused_fed {Event} {Reply} fed why is = ap (λ (z : Result (EndStep Event Reply) Refusal).
    let f : EndFed Event Reply = record { used = fed.used; step = z } in f) is

-- where an end doesn't stop at what is told, it has told nothing at which it stops
pub goes_on_untold : {Event : Type 0} (stops : Bool) (event : Option Event) → (stops && is_some event) ≡ false
    → (told : List Event) → HasToldAlone stops None told → HasToldAlone stops None (told ++ as_list event)
goes_on_untold true None e told t s = append-nil told ∙ t s
goes_on_untold true (Some event) e told t s = absurd (cc)
goes_on_untold false event e told t s = absurd (cc)

-- where it does, it has told this alone
pub stops_told : {Event : Type 0} (stops : Bool) (event : Option Event) → (stops && is_some event) ≡ true
    → (told : List Event) → HasToldAlone stops None told → HasToldAlone stops event (told ++ as_list event)
stops_told {Event} stops event e told t s = ap (λ (l : List Event). l ++ as_list event) (t s)

pub stops_plain : {Event : Type 0} (stops : Bool) (event : Option Event) → (stops && is_some event) ≡ true
    → stops ≡ false → event ≡ None
stops_plain true event e h = absurd (cc)
stops_plain false event e h = absurd (cc)

pub stops_some : {Event : Type 0} (stops : Bool) (event : Option Event) → (stops && is_some event) ≡ true → IsSome event
stops_some true None e = absurd (cc)
stops_some true (Some event) e = refl
stops_some false event e = absurd (cc)
