use Rattle.ws_end.proofs.Common.{arith, rules}
use Rattle.ws_end.proofs.station.Driver+AtStation+D.new.Goals as goal

pub returns-clause-reached : goal.returns-clause-reached
returns-clause-reached g c =
    c.of.ensures _ (record { options = search rules; given = search rules; counted = omega arith })

pub returns-clause-fresh : goal.returns-clause-fresh
returns-clause-fresh g c = record { terminal = c.args.terminal; reached = returns-clause-reached g c }
