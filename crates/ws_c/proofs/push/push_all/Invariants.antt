use Rattle.std.proofs.Common.{◌-◌, None, length}
use Rattle.ws_end.specs.driver.Driven.{driving}
use Rattle.ws_c.proofs.HeldLaws.{Feeding}
use Rattle.ws_c.proofs.push.push_all.Given as goal

abbrev pub invariant-loop-told : goal.invariant-loop-told
invariant-loop-told g l = Feeding (driving g.R.Body.Code.rules g.R.Collector.Keep.keeper g.R.Reacts.does) l.stops None
    l.fn.held l.held l.bytes l.fn.buffer l.buffer l.told

abbrev pub decreases-loop-told : goal.decreases-loop-told
decreases-loop-told g l = length l.bytes - l.told.taken
