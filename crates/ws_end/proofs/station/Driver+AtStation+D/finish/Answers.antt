use Rattle.ws_end.proofs.Common.{refl, on_ok_weaker, IfErr-weaker}
use Rattle.ws_end.proofs.station.Driver+AtStation+D.finish.Goals as goal

pub returns-clause-ok : goal.returns-clause-ok
returns-clause-ok g c = rw (← c.self.view_is) (on_ok_weaker c.finish.result (λ p. (
  rw p.0 refl,
  (λ bytes items state l. p.1 bytes items l.so_far l.reached),
)) c.finish.ensures.ok)

pub returns-clause-truncated : goal.returns-clause-truncated
returns-clause-truncated g c = rw (← c.self.view_is) (IfErr-weaker c.finish.result _ _
    (λ fault p bytes items state l few. p bytes items l.so_far l.reached few) c.finish.ensures.truncated)
