use Rattle.ws_record.proofs.Common.{length, ◌-◌}
use Rattle.ws_record.proofs.Lives.{IsLed}
use Rattle.ws_record.proofs.live.Live.feed.Given as goal

abbrev pub invariant-loop-used : goal.invariant-loop-used
invariant-loop-used g l = IsLed g.B.Code.rules l.fn.self l.piece l.used l.self

abbrev pub decreases-loop-used : goal.decreases-loop-used
decreases-loop-used g l = length l.piece - l.used
