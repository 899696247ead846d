use Rattle.ws_record.proofs.Common.{refl, sym, is_between}
use Rattle.ws_record.proofs.open_record.begin_body.Goals as goal

pub returns-clause-stands : goal.returns-clause-stands
returns-clause-stands g c =
    is_between g.B.Code.rules _ _
    (rw c.restart.ensures.fresh (g.met.B.Code.begins (g.B.Code.place c.restart.new.self)))
    (sym c.restart.ensures.place) refl c.restart.ensures.fresh
