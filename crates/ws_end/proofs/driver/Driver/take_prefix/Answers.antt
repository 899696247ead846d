use Rattle.std.proofs.Common.{subst}
use Rattle.ws_end.specs.driver.Driven.{Driven, IsSettled, driving}
use Rattle.ws_end.proofs.driver.Drivings.{prefix_is}
use Rattle.ws_end.proofs.driver.Driver.take_prefix.Goals as goal

pub returns : goal.returns
returns g c =
    let a = c.advance-used in
    let e = a.ensures in
    let r = c.react-done in
    let d = driving g.R.Body.Code.rules g.R.Collector.Keep.keeper g.R.Reacts.does in
    rw (← c.self.view_is) (prefix_is d _ c.args.piece.now a.result.used a.new.self a.new.keep a.result.news r.new.self _
    r.result _ e.within e.counted e.used e.advance e.first r.ensures.taken r.ensures.settled r.ensures.same
    (subst (λ (z : Driven _ _ _). IsSettled d z r.result c.settle-step.new.self c.settle-step.result)
    {y = r.new.self} (cc) c.settle-step.ensures))
