use Rattle.ws_stream.proofs.Running.{slot_full, slot_empty}
use Rattle.ws_stream.proofs.commands.CommandsCode.push.Goals as goal

pub returns-in-Some : goal.returns-in-Some
returns-in-Some c = slot_full _ _ _ c.step.new.self _ _ _ c.step.ensures c.in-Some.is

pub returns-in-None : goal.returns-in-None
returns-in-None c = absurd (slot_empty _ _ _ c.step.new.self _ _ c.step.ensures c.in-Enough.is c.in-None.is)
