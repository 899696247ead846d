use Rattle.ws_end.proofs.Common.{arith}
use Rattle.ws_end.proofs.RecordCounts.{records_few}
use Rattle.ws_end.proofs.station.tells.Driver+AtStation+D.records.Goals as goal

pub returns-clause-applied : goal.returns-clause-applied
returns-clause-applied g c = rw (← c.self.view_is, ← c.self-inside.view_is) (λ bytes items state l. omega (
  arith,
  l.stands.counted,
  records_few g.D.Commands.Code.rules bytes items l.so_far.bytes _ l.reached.holds,
  l.reached.count,
  c.taken-taken.ensures,
))
