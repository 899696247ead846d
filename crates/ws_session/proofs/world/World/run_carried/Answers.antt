use Rattle.std.proofs.lemmas.Result.{IfOk-weaker}
use Rattle.ws_session.proofs.Common.{[], ◌∷◌, ◌++◌, refl, subst, ◌∙◌, take, drop, ap₂, sym, inl, inr, take_all}
use Rattle.ws_session.proofs.Common.{longer_by, flat_map-append, err_from_is_err_and, Crossing, Runs, WorldParts}
use Rattle.ws_session.proofs.Common.{new_session, after_moves}
use Rattle.ws_session.specs.world.Carried.{brought_down, brought_up}
use Rattle.ws_session.proofs.world.Crossed.{brought_more, crossed_on, faithful_back, faithful_prefix, stop_behind}
use Rattle.ws_session.proofs.world.Reached.{after_both}
use Rattle.ws_session.proofs.world.World.run_carried.Goals as goal

pub loop-step-init : goal.loop-step-init
loop-step-init g c = record {
  downs = [];
  ups = [];
  went_down = refl;
  went_up = refl;
  runs = λ f h. (c.in_ok-world.ensures.new, refl, refl);
}

pub loop-step-preserved : goal.loop-step-preserved
loop-step-preserved g c =
    let t = c.args.terminal in
    let start = new_session t in
    let moves = c.args.moves.now in
    let n = c.loop-step.step-index in
    let step = c.step-item.result in
    let w = after_moves start (take n moves) in
    let i = c.loop-step.invariant in
    let q = c.in_ok-cross.ensures.crossed in
    let longer = longer_by moves n _ c.loop-step-test.true c.step-item.is in
    record {
      downs = i.downs ++ q.0;
      ups = i.ups ++ q.1;
      went_down = crossed_on _ _ _ _ _ q.0 i.went_down q.2;
      went_up = crossed_on _ _ _ _ i.ups q.1 i.went_up q.3;
      runs = λ f h.
          let p = i.runs (faithful_prefix _ q.0 f) (faithful_prefix i.ups q.1 h) in
          let same = q.6 (faithful_back _ q.0 f) (faithful_back i.ups q.1 h) in
          let ran = c.in_ok-take.ensures.taken t w (subst (λ (z : WorldParts). Runs t z w) (sym same) p.0) in (
            rw (longer, after_both _ (_ ∷ []) _) ran,
            rw longer (flat_map-append (λ (c : Crossing). c.sent) i.downs q.0 ∙ ap₂ (λ x y. x ++ y) p.1
                (q.4 ∙ ap₂ (λ k b. brought_down (drop k b) step) p.0.at_station p.0.down)
                ∙ sym (brought_more _ start (take n moves) step)),
            rw longer (flat_map-append (λ (c : Crossing). c.sent) i.ups q.1 ∙ ap₂ (λ x y. x ++ y) p.2
                (q.5 ∙ ap₂ (λ k b. brought_up (drop k b) step) p.0.at_host p.0.up)
                ∙ sym (brought_more _ start (take n moves) step)),
          );
    }

pub returns-clause-done : goal.returns-clause-done
returns-clause-done g c =
    let t = c.args.terminal in
    let moves = c.args.moves.now in
    let all = take_all c.loop-step.step-index moves c.loop-step-test.false in
    let i = c.loop-step.invariant in
    IfOk-weaker c.report.result _ _ (λ r q. (
      i.downs,
      i.ups,
      i.went_down,
      i.went_up,
      λ f h.
          let p = rw all at (i.runs f h) in
          record { report = q t (after_moves (new_session t) moves) p.0; down = p.1; up = p.2 },
    )) c.report.ensures.reported

pub returns-in_err-cross-clause-fault : goal.returns-in_err-cross-clause-fault
returns-in_err-cross-clause-fault g c =
    let i = c.loop-step.invariant in
    let p = err_from_is_err_and c.from_residual-in_err-cross.result c.from_residual-in_err-cross.ensures.1 in
    rw (p.1, p.2) (inr (elim c.in_err-cross.ensures.fault [
      | inl k ↦ inl (stop_behind _ _ _ _ i.downs _ i.went_down k)
      | inr k ↦ inr (stop_behind _ _ _ _ i.ups _ i.went_up k)
    ]))
