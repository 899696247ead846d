use Rattle.ws_session.proofs.Common.{◌+◌, ◌≤◌, ℕ, take, ap, arith, length-take, at_end}
use Rattle.ws_session.proofs.world.Arriving.{none_delivered, some_delivered, all_come}
use Rattle.ws_session.proofs.world.delivery.deliver.Goals as goal

pub loop-left-init : goal.loop-left-init
loop-left-init g c = record {
  gone = 0;
  all = omega (arith, c.min-left.ensures, c.in_flight.ensures.left);
  come = none_delivered _ _ g.met.E.End.stays _ c.in_flight.ensures.few;
}

pub loop-left-preserved : goal.loop-left-preserved
loop-left-preserved g c =
    let l = c.loop-left in
    let i = l.invariant in
    let used : ℕ = c.in_ok-used.used in
    let within : used ≤ l.left = omega (arith, c.in_ok-used.ensures.within, length-take l.left c.waiting.result.now) in
    record {
      gone = i.gone + used;
      all = omega (arith, i.all, within);
      come = some_delivered g.E.End.behaviour g.E.Reported.telling
          (at_end c.args.end.now c.args.from.now c.args.to.now c.args.events.now.items)
          (at_end l.end l.from l.to l.events.items) i.gone i.come g.met.E.End.follows
          (at_end c.come.new.end c.skip.new.self c.come.new.to c.come.new.events.items) c.in_flight.result l.left used
          c.in_flight.ensures.left (omega (arith, i.all, c.in_flight.ensures.left)) within
          (take used (take l.left c.waiting.result.now))
          (ap (λ z. take used (take l.left z)) c.waiting.ensures.bytes) c.skip.ensures c.in_ok-used.ensures.come;
    }

pub returns-clause-come : goal.returns-clause-come
returns-clause-come g c =
    let l = c.loop-left in
    let i = l.invariant in
    all_come g.E.End.behaviour g.E.Reported.telling
    (at_end c.args.end.now c.args.from.now c.args.to.now c.args.events.now.items)
    (at_end l.end l.from l.to l.events.items) i.gone i.come c.in_flight.result c.args.count c.in_flight.ensures.left
    (omega (arith, i.all, c.loop-left-test.false, c.in_flight.ensures.left))
