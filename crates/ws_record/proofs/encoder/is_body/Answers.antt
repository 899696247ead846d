use Rattle.ws_record.proofs.Common.{true, ◌≡◌, sym, ◌∙◌, false, Bool, chain_next, chain_at}
use Rattle.ws_record.proofs.encoder.is_body.Goals as goal

pub returns-then-not-may_follow : goal.returns-then-not-may_follow
returns-then-not-may_follow g c = (
  λ f. absurd (let e : ◌≡◌ {A = Bool} false true = f in cc),
  λ w. (let e : ◌≡◌ {A = Bool} false true = sym c.if-not-may_follow.true ∙ c.may_follow.ensures
      ∙ rw c.loop-unit.invariant.leads
      (chain_at _ _ _ _ _ c.loop-unit-test.true c.unit-item.is w.chain).may_follow in e),
)

pub loop-unit-preserved : goal.loop-unit-preserved
loop-unit-preserved g c =
    let next = chain_next g.B.Code.rules c.args.units.now c.loop-unit.unit-index c.unit-item.result
    c.loop-unit-test.true c.unit-item.is c.loop-unit.invariant.chain (record {
      is_unit = c.known.ensures;
      may_follow = rw (← c.loop-unit.invariant.leads, ← c.may_follow.ensures) c.if-not-may_follow.false;
    }) in
    record { chain = next.0; leads = c.after-place.ensures ∙ next.1 }
