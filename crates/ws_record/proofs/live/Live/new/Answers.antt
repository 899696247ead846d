use Rattle.ws_record.proofs.Common.{refl, fresh_begins}
use Rattle.ws_record.proofs.Encodings.{holds_nothing}
use Rattle.ws_record.proofs.Lives.{leads}
use Rattle.ws_record.proofs.live.Live.new.Goals as goal

pub returns : goal.returns
returns g c = leads _ g.met.B.Body.can_end g.met.B.Code.bytes refl
    (rw c.start.ensures.fresh (holds_nothing g.B.Code.rules)) c.new.ensures refl

pub invariant_of-result : goal.invariant_of-result
invariant_of-result g c = fresh_begins _ c.start.ensures.fresh
