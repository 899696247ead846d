use Rattle.ws_lasting.proofs.Common.{rules}
use Rattle.ws_lasting.proofs.lasting.LastingStation.push.Goals as goal

pub returns-in-Ok : goal.returns-in-Ok
returns-in-Ok g c = (c.take_byte.result, search rules, search rules)

pub returns-in-Err : goal.returns-in-Err
returns-in-Err g c = (c.take_byte.result, search rules, search rules)
