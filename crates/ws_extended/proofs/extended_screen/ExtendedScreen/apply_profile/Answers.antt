use Rattle.std.specs.Prelude.{OnErr, Result, Ok, Err}
use Rattle.std.proofs.Common.{◌≡◌, Bool, true, false, Some, None, refl, ◌∙◌}
use Rattle.ws_code.specs.declared.reason.Reason.{Reason}
use Rattle.ws_screen.specs.Faults.{fault, refusal}
use Rattle.ws_screen.proofs.Applies.{same_fault}
use Rattle.ws_extended.specs.ExtendedStates.{state_before, uncovers}
use Rattle.ws_extended.specs.ExtendedViews.{kept_of}
use Rattle.ws_extended.proofs.Keeping.{on_ok}
use Rattle.ws_extended.proofs.StateSteps.{own_shows, unrefused}
use Rattle.ws_extended.proofs.extended_screen.ExtendedScreen.apply_profile.Goals as goal

pub returns-then-touches_screen_alone-clause-after : goal.returns-then-touches_screen_alone-clause-after
returns-then-touches_screen_alone-clause-after c =
    let i = c.self.inside in
    let alone = c.touches_screen_alone.ensures c.if-touches_screen_alone.true in
    rw (← c.self.view_is) (on_ok c.apply.result
    (λ follows state shows. own_shows state i.screen c.apply.new.self i.error_row i.text (kept_of i.kept) shows
    c.args.element.now alone.0 alone.1 follows) c.apply.ensures.events)

pub returns-clause-fault : goal.returns-clause-fault
returns-clause-fault c = λ state shows.
    let mid = c.make_ready.new.self in
    let ready = c.make_ready.ensures.ready state shows in
    c.carry_out.ensures.fault
    ∙ same_fault (state_before state c.args.element.now).history mid.screen c.args.element.now ready.gives

pub returns-clause-after : goal.returns-clause-after
returns-clause-after c = on_ok c.carry_out.result
    (λ after state shows. after (state_before state c.args.element.now) (c.make_ready.ensures.ready state shows))
    c.carry_out.ensures.after

pub returns-clause-unchanged : goal.returns-clause-unchanged
returns-clause-unchanged c =
    go c.carry_out.result c.carry_out.ensures.unchanged c.carry_out.ensures.fault (uncovers c.args.element.now) refl
  where
    go : (r : Result Unit Reason) → OnErr r (c.carry_out.new.self ≡ c.make_ready.new.self)
        → refusal r ≡ fault c.make_ready.new.self.screen c.args.element.now → (t : Bool)
        → uncovers c.args.element.now ≡ t → OnErr r (c.carry_out.new.self ≡ c.args.self.now)
    go (Ok x) same f t e = tt
    go (Err reason) same f true e =
        let none : Some reason ≡ None = f ∙ unrefused c.make_ready.new.self.screen c.args.element.now e in
        absurd (cc)
    go (Err reason) same f false e = same ∙ c.make_ready.ensures.untouched e
