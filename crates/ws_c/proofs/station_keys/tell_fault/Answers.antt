use Rattle.std.proofs.Common.{arith}
use Rattle.std.proofs.lemmas.Grind.{common_steps}
use Rattle.ws_c.proofs.station_keys.tell_fault.Goals as goal

pub returns-in-NotReady : goal.returns-in-NotReady
returns-in-NotReady c = grind (arith, common_steps)
