use Rattle.ws_lasting.proofs.Common as C
use C.{◌≡◌, ℕ, [], ◌∷◌, ◌++◌, refl, inr, length, Some, None, Ok, Err, true, false, Bool, ◌&&◌, Rules, IsPrefixFree}
use C.{Push, More, Whole, Bad, Reason, Begins, Token, Data, Eor, TelnetToken, At, DisplayOf, on_display, ReachedOn}
use C.{IsCounted, LastingParts, LastingStep, IsWordHeard, bytes_written, IsWordRefused, may_pass_over, Footing}
use C.{negative, RecordCounts, Refused, RefusedRecord, counted_none}
use Rattle.ws_lasting.proofs.Passing.{reads_anew, stands_passing, stands_reading}

-- What comes of a token that is refused: what is told of it, and how the station stands then.

first_true : (a b : Bool) → (a && b) ≡ true → a ≡ true
first_true true b e = refl
first_true false b e = e

module _ {D P U H PlaceV V K R : Type 0} (rules : Rules P U) (d : DisplayOf D U H PlaceV V K R) (at : Footing H)
    (reason : Reason) where
  module _ (new : LastingParts D P) (works : new.ended ≡ None) (named : new.environ ≡ at.environ)
      (anew : ReachedOn (on_display rules d) new.station [] [] at.state)
      (may : may_pass_over (on_display rules d) at.state reason ≡ true) (here size : ℕ)
      (long : size ≡ length at.so_far) (step : LastingStep R) where
    abbrev Why : RefusedRecord
    Why = record { reason = reason; place = size }

    pub refused_at_end : IsPrefixFree rules → Begins rules → (counts : RecordCounts) → new.passing ≡ None
        → new.begun ≡ [] → new.size ≡ 0 → IsWordRefused (on_display rules d) at (Whole Eor) reason
        → bytes_written (on_display rules d) new step.reply ≡ negative reason → step.event ≡ Some (Refused Why)
        → IsCounted counts (Refused Why ∷ []) new.counts
        → IsWordHeard (on_display rules d) counts new at here (Whole Eor) (Ok step)
    refused_at_end free begins counts passing between none refused written told counted = rw told (
      record at { so_far = []; begun = new.begun },
      (refl, refl, inr (refl, Why, may, inr (refused, long), written, refl)),
      stands_reading rules d new _ works refl named passing
          (reads_anew rules d free begins new.station new.taken _ refl between anew) none,
      counted,
    )

    pub refused_inside : (word : Push Token) → new.passing ≡ Some Why
        → IsWordRefused (on_display rules d) at word reason → (word ≡ Whole Eor → ⊥)
        → bytes_written (on_display rules d) new step.reply ≡ [] → step.event ≡ None
        → IsWordHeard (on_display rules d) new.counts new at here word (Ok step)
    refused_inside More passing refused no_end silent untold = absurd refused
    refused_inside (Whole (Data v)) passing refused no_end silent untold = rw untold (
      record at { so_far = at.so_far ++ v ∷ []; begun = new.begun },
      (refl, refl, refl, silent, refl),
      stands_passing rules d new _ works refl named Why passing (record {
        reached = anew;
        of_record = first_true _ _ may;
        spoilt = record {
          front = at.so_far;
          byte = v;
          rest = [];
          split = refl;
          at_place = long;
          framed = refused.0;
          begins = refused.1;
          unfit = refused.2;
        };
      }),
      counted_none new.counts,
    )
    refused_inside (Whole (TelnetToken u)) passing refused no_end silent untold = absurd refused
    refused_inside (Whole Eor) passing refused no_end silent untold = absurd (no_end refl)
    refused_inside (Bad other) passing refused no_end silent untold = absurd refused

  pub refused_last : (counts : RecordCounts) (new : LastingParts D P) (word : Push Token) (here : ℕ)
      → IsWordRefused (on_display rules d) at word reason → may_pass_over (on_display rules d) at.state reason ≡ false
      → IsWordHeard (on_display rules d) counts new at here word (Err (At here reason))
  refused_last counts new More here refused forbids = absurd refused
  refused_last counts new (Whole (Data v)) here refused forbids = (refl, (refused.2, forbids))
  refused_last counts new (Whole Eor) here refused forbids = (refl, (refused, forbids))
  refused_last counts new (Whole (TelnetToken u)) here refused forbids = absurd refused
  refused_last counts new (Bad bad) here refused forbids = absurd refused
