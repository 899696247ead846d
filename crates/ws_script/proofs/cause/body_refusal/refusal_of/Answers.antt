use Rattle.ws_record.proofs.Common.{◌≡◌, ◌++◌, ◌+◌, take, drop, refl, sym, ap, ◌∙◌, append_assoc, arith, inl, inr, length}
use Rattle.ws_record.proofs.Common.{take-length, take-append-drop, from_first, length-append, length-take-le}
use Rattle.ws_script.proofs.cause.body_refusal.refusal_of.Goals as goal
use Rattle.ws_script.proofs.cause.body_refusal.refusal_of.Goals.{then-at-via-then-at, then-at-via-else-at+then-not-may_end}

pub returns-in-Bad : goal.returns-in-Bad
returns-in-Bad g c =
    let bytes = c.args.bytes.now in
    let used = c.run-run.result.used in
    let run = rw c.in-Bad.is at c.run-run.ensures.run in
    let taken : length (take used bytes) ≡ used = length-take-le used bytes c.run-run.ensures.used in
    let ends : length (take used bytes) ≡ length run.0.front + 1 = ap length run.0.split ∙ length-append run.0.front _ in
    record {
      before = run.0.front;
      so_far = run.0.before.read;
      read = (from_first g.B.Code.rules _ _ _ run.0.on.run (c.start-machine.ensures.place ∙ c.first-place.ensures)
          c.start-machine.ensures.fresh).0;
      at_place = omega (arith, c.saturating_sub.ensures, taken, ends);
      why = inl (
        run.0.last,
        drop used bytes,
        sym (take-append-drop used bytes) ∙ (ap (λ x. x ++ drop used bytes) run.0.split ∙ append_assoc run.0.front _ _),
        run.1,
        run.2,
      );
    }

pub returns-then-at : goal.returns-then-at
returns-then-at g c =
    let rules = g.B.Code.rules in
    let run = rw (c.in-More.is, c.run-run.ensures.whole c.in-More.is, take-length c.args.bytes.now)
    at c.run-run.ensures.run in
    record {
      before = c.args.bytes.now;
      so_far = _;
      read = (from_first rules _ _ _ run.0.run (c.start-machine.ensures.place ∙ c.first-place.ensures)
          c.start-machine.ensures.fresh).0;
      at_place = refl;
      why = inr (
        refl,
        refl,
        elim c.then-at.branch [
          | then-at-via-then-at w ↦ inl (run.1.inside w.if-at.true)
          | then-at-via-else-at+then-not-may_end w ↦
              inr (ap rules.may_end (sym run.1.at_place) ∙ sym w.may_end.ensures ∙ w.if-not-may_end.true)
        ],
      );
    }
