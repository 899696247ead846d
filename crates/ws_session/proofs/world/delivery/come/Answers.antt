use Rattle.ws_session.proofs.Common.{◌≡◌, ◌-◌, ◌++◌, refl, ◌∙◌, take, ap, arith, length, Err, Ok, take_all, Refusal}
use Rattle.ws_session.proofs.Common.{Failed}
use Rattle.ws_session.proofs.world.Arriving.{traces_come, refused_come}
use Rattle.ws_session.proofs.world.delivery.come.Goals as goal

pub returns-in_ok-tell-in-Ok-clause-come : goal.returns-in_ok-tell-in-Ok-clause-come
returns-in_ok-tell-in-Ok-clause-come g c = traces_come _ _ _ _ _ _ _ _ _ _ _
    (rw c.in-Ok.is at c.feed-used.ensures.fed)
    (λ o. absurd (let e : Ok c.in-Ok.step ≡ Err Failed = rw c.in-Ok.is at (c.feed-used.ensures.over o).0 in cc))
    (rw c.bytes.ensures.value at c.in_ok-write-in-Ok.ensures.written)
    (c.in_ok-tell-in-Ok.ensures.reported ∙ ap (λ z. c.args.events.now.items ++ z) c.event.ensures.reported)

pub returns-in_ok-tell-in-Err-clause-come : goal.returns-in_ok-tell-in-Err-clause-come
returns-in_ok-tell-in-Err-clause-come g c =
    let piece = c.args.piece.now in
    let why : Refusal = c.in-Err.refusal in
    let r = rw c.in-Err.is at c.feed-used.ensures.refused in
    refused_come g.E.End.behaviour g.E.Reported.telling g.met.E.End.stays
    c.args.end.now c.feed-used.new.self (take (length piece) piece) (take (c.feed-used.result.used - 1) piece) r.1 r.0 why
    (take_all (length piece) piece (omega arith) ∙ r.2) c.in_ok-refused-in-Err.ensures.memory c.args.to.now
    c.args.events.now.items c.tell-in-Err.new.events.items r.3 (rw c.in-Err.is at c.feed-used.ensures.after)
    (λ o. (
      (c.feed-used.ensures.over o).2,
      (let e : Err why ≡ Err Failed = rw c.in-Err.is at
          (c.feed-used.ensures.over o).0 in
          let failed : why ≡ Failed = cc in rw failed refl),
    ))
    (c.in_ok-tell-in-Err.ensures.reported ∙ ap (λ z. c.args.events.now.items ++ z)
    c.in_ok-refused-in-Err.ensures.reported)
