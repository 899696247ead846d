use Rattle.ws_end.proofs.Common.{◌≡◌, ◌+◌, ◌≤◌, List, [], ◌++◌, refl, ◌∙◌, ℕ, Option, Some, None, take, drop, ap, sym}
use Rattle.ws_end.proofs.Common.{arith, take-append-drop, length, take_all, err_from_is_err_and, length_rest, left_of}
use Rattle.ws_end.proofs.Common.{bytes_on, reading_of, Element, CommandsOnly, body_fault}
use Rattle.ws_code.proofs.RunLaws.{same_reading}
use Rattle.ws_screen.proofs.Spelled.{Applied, applied_start, applied_all, applied_at, ready, ran_none, ran_some}
use Rattle.ws_screen.proofs.Spelled.{ran_bad, whole_finds_write, whole_applied, whole_refused}
use Rattle.ws_end.proofs.AlarmLaws.{counted_all, counted_at, counted_more, counted_none, counted_still}
use Rattle.ws_end.proofs.station.apply.apply_spelled.Goals as goal
use Rattle.ws_end.proofs.station.apply.apply_spelled.Goals.{in-Some+in_ok-apply, in_default}

empty : (slot : Option Element) → ((element : Element) → slot ≡ Some element → ⊥) → slot ≡ None
empty None none = refl
empty (Some element) none = absurd (none _ refl)

-- the bytes up to the run's end, and those behind them
cut_is : (bytes : List ℕ) (i k : ℕ) → (take i bytes ++ take k (left_of bytes i)) ++ drop (i + k) bytes ≡ bytes
cut_is bytes i k = ap (λ z. z ++ drop (i + k) bytes) (bytes_on [] bytes i k) ∙ take-append-drop (i + k) bytes

pub loop-used-init : goal.loop-used-init
loop-used-init c =
    let from = c.args.screen.now in
    let reading = reading_of c.start-machine.result in
    let place : reading.place ≡ CommandsOnly = c.start-machine.ensures.place ∙ c.first-place.ensures in
    let begun : reading.begun ≡ [] = c.start-machine.ensures.fresh in
    let applied : Applied from [] from _ _ =
    applied_at from [] [] from from _ _ [] _ refl refl place begun (applied_start from c.requires.closed) in
    record {
      inside = omega arith;
      stands = record {
        unfinished = ready from [] from _ _ applied;
        at_place = sym c.start-machine.ensures.place;
        inside = λ e. absurd (cc);
        between = λ e. begun;
      };
      applied = applied;
      counted = counted_none reading (same_reading reading.place CommandsOnly reading.begun [] place begun);
    }

pub apply-requires : goal.apply-requires
apply-requires c = λ request.
    let now = c.loop-used in
    let run = c.run-run in
    let values = take run.result.used (left_of c.args.bytes.now now.used) in
    let whole = ran_some c.args.screen.now
    (take now.used c.args.bytes.now) now.screen (reading_of now.machine) now.invariant.applied values
    (reading_of run.new.self) run.new.at run.new.keep run.result.end run.ensures.run _ c.in-Some.is in
    whole_finds_write _ _ _ _ _ _ _ _ _ whole request

pub returns-in_err-apply-clause-fault : goal.returns-in_err-apply-clause-fault
returns-in_err-apply-clause-fault c =
    let p = err_from_is_err_and c.from_residual.result c.from_residual.ensures.1 in
    let now = c.loop-used in
    let run = c.run-run in
    let bytes = c.args.bytes.now in
    let values = take run.result.used (left_of bytes now.used) in
    let whole = ran_some _ _ now.screen (reading_of now.machine) now.invariant.applied values
    (reading_of run.new.self) run.new.at run.new.keep run.result.end run.ensures.run c.in-Some.element c.in-Some.is in
    rw (p.1, p.2) (λ h body chain same g. sym (whole_refused _ _ _ _ _ _ _ _ _ whole body chain _
    (cut_is bytes now.used _ ∙ same) _ (sym c.in_err-apply.ensures.fault) h g))

pub returns-in-Bad-clause-fault : goal.returns-in-Bad-clause-fault
returns-in-Bad-clause-fault c = λ h body chain same g.
    let now = c.loop-used in
    let run = c.run-run in
    let bytes = c.args.bytes.now in
    absurd (ran_bad c.args.screen.now _ now.screen _ now.invariant.applied _ (reading_of run.new.self) run.new.at _ _
    ((rw c.in-Bad.is at run.ensures.run)) body chain _ (cut_is bytes now.used _ ∙ same))

pub loop-used-preserved : goal.loop-used-preserved
loop-used-preserved c =
    let from = c.args.screen.now in
    let now = c.loop-used in
    let run = c.run-run in
    let bytes = c.args.bytes.now in
    let i : ℕ = now.used in
    let k : ℕ = run.result.used in
    let values = take k (left_of bytes i) in
    let to = reading_of run.new.self in
    let prefix : take (i + k) bytes ≡ take i bytes ++ values = sym (bytes_on [] bytes i k) in
    let inside : i + k ≤ length bytes = omega (arith, run.ensures.used, length_rest bytes i, now.invariant.inside) in
    elim c.match-slot.branch [
      | in-Some+in_ok-apply w ↦
          let element = w.in-Some.element in
          let whole = ran_some from _ _ (reading_of now.machine)
          now.invariant.applied values to _ run.new.keep run.result.end run.ensures.run element w.in-Some.is in
          record {
            inside = inside;
            stands = whole.stands;
            applied = applied_at from _ _ w.apply.new.self _ _ _ _ _ prefix w.screen-is refl refl
                (whole_applied from _ _ _ _ _ to _ _ whole _
                (sym w.in_ok-apply.ensures.fault) w.in_ok-apply.ensures.events w.in_ok-apply.ensures.open_);
            counted = counted_at _ _ to _ _ prefix w.alarms-is (counted_more _ (reading_of now.machine) _
                now.invariant.counted values to run.new.at run.new.keep run.result.end run.ensures.run element
                w.in-Some.is _ w.count_alarm-alarms.ensures.sounds w.count_alarm-alarms.ensures.silent);
          }
      | in_default w ↦
          let on = ran_none from _ _ (reading_of now.machine) now.invariant.applied values to _ run.new.keep
          run.result.end run.ensures.run (empty run.new.keep w.in_default.not-Some) c.in_default-end.not-Bad in
          record {
            inside = inside;
            stands = on.1;
            applied = applied_at from _ _ _ _ _ _ _ _ prefix w.screen-is refl refl on.0;
            counted = counted_at _ _ to _ _ prefix w.alarms-is (counted_still _ (reading_of now.machine) _
                now.invariant.counted values to run.new.at run.new.keep run.result.end run.ensures.run
                (empty run.new.keep w.in_default.not-Some) c.in_default-end.not-Bad);
          }
    ]

pub returns-clause-fault : goal.returns-clause-fault
returns-clause-fault c = λ h body chain same g.
    let now = c.loop-used in
    let a = now.invariant.applied in
    let all = take_all now.used c.args.bytes.now c.loop-used-test.false in
    sym (a.gives h g).1 ∙ ap (body_fault h) (applied_all _ _ _ _ _ a body chain (all ∙ same))

pub returns-clause-after : goal.returns-clause-after
returns-clause-after c = λ h body chain same g.
    let now = c.loop-used in
    let a = now.invariant.applied in
    let all = take_all now.used c.args.bytes.now c.loop-used-test.false in
    rw (← (applied_all _ _ _ _ _ a body chain (all ∙ same))) (a.gives h g).0

pub returns-clause-alarms : goal.returns-clause-alarms
returns-clause-alarms c = λ body chain same.
    let now = c.loop-used in
    let all = take_all now.used c.args.bytes.now c.loop-used-test.false in
    counted_all _ (reading_of now.machine) now.alarms now.invariant.counted body chain (all ∙ same)
