-- A line that is carried out again and again.

use Rattle.std.specs.Prelude.{Bool, Ok, Err, replicate, Result}
use Rattle.std.proofs.Common.{◌≡◌, ℕ, ◌+◌, List, ◌++◌, true, false, inl, inr, refl, ap, sym, subst}
use Rattle.std.proofs.lemmas.Bool.{false≢true}
use Rattle.std.proofs.lemmas.List.{replicate-append-replicate}
use Rattle.ws_code.specs.Device.{Writer, most_reads}
use Rattle.ws_code.specs.declared.fault.Fault.{Fault}
use Rattle.ws_code.specs.declared.fault.Fault.TheVariants as fault
use Rattle.ws_code.proofs.DeviceLaws.{went_out_both}
use Rattle.ws_text.specs.Printed.{IsPrinted}
use Rattle.ws_live.specs.declared.live.AfterUnwell.TheVariants.{GoOn}
use Rattle.ws_live.specs.declared.live.Closing.{Closing}
use Rattle.ws_live.specs.declared.live.Closing.TheVariants.{Done}
use Rattle.ws_live.specs.live.LiveText.{HaveRun, LinesDo, account, line_printing, line_result, ran_and, ran_by, ran_none}
use Rattle.ws_live.specs.live.LiveText.{stops}
use Rattle.ws_live.specs.live.CarryingOn.{CarriesOn, carrying_on, goes_well, is_told}
use Rattle.ws_live.proofs.LiveRuns.{HaveGone, fails_behind, goes_on}

told_done : (closing : Closing) → is_told closing ≡ true → closing ≡ Done
told_done Done e = refl
told_done closing e = absurd (false≢true e)

-- one that closed with something that was told stops nothing
pub told_goes : (closing : Closing) → is_told closing ≡ true → stops closing ≡ false
told_goes closing e = ap stops (told_done closing e)

module _ {L P O : Type 0} {runs : LinesDo L P} {line : L} {printer : Writer O} {from mid : P} {old between : O} (count : ℕ)
    (h : HaveGone GoOn runs printer from old (replicate count line) ran_none mid between) where
  came_to : {to : P} (outcome : Result Closing Fault) (last : List ℕ) → runs line mid (line_result outcome last) to
      → CarriesOn runs line from (line_result outcome (h.text ++ last)) to
  came_to outcome last came =
      record { count = count; printed = h.text; mid = mid; ran = h.run; last = last; ends = came; all = refl }

  module _ {to : P} {new : O} where
    -- once more
    pub one_told : (closing : Closing) → IsPrinted printer between new (line_printing runs mid line to) (Ok closing)
        → is_told closing ≡ true → HaveGone GoOn runs printer from old (replicate (count + 1) line) ran_none to new
    one_told closing one told = goes_on h (replicate-append-replicate count 1 line) one
        (ap (λ k. ran_and ran_none (ran_by GoOn k)) (sym (told_done closing told))) refl

    pub none_told : (closing : Closing) {well : Bool}
        → IsPrinted printer between new (line_printing runs mid line to) (Ok closing) → is_told closing ≡ false
        → well ≡ goes_well closing → IsPrinted printer old new (carrying_on runs line from to) (Ok well)
    none_told closing one untold e = (
      h.text ++ one.0,
      (closing, came_to (Ok closing) one.0 one.1, untold, e),
      went_out_both printer old between new h.text one.0 h.out one.2,
    )

    pub once_fails : (why : Fault) → IsPrinted printer between new (line_printing runs mid line to) (Err why)
        → IsPrinted printer old new (carrying_on runs line from to) (Err why)
    once_fails why one = fails_behind h (λ came. CarriesOn runs line from came to) came_to why
        (carrying_on runs line from to).Ends (λ text came. inl came) one

  pub too_much_told : count ≡ most_reads
      → IsPrinted printer old between (carrying_on runs line from mid) (Err fault.Read)
  too_much_told all = inl (
    h.text,
    inr (
      refl,
      record { ran = subst (λ n. HaveRun GoOn runs from (replicate n line) (account true h.text) mid) all h.run },
    ),
    h.out,
  )
