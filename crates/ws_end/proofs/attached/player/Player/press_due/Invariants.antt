use Rattle.ws_end.proofs.Common.{length, ◌-◌}
use Rattle.ws_end.proofs.attached.Plays.{Pressing}
use Rattle.ws_end.proofs.attached.player.Player.press_due.Given as goal

-- the keys so far were due and are pressed
abbrev pub invariant-loop-self : goal.invariant-loop-self
invariant-loop-self g l = Pressing g.S.Sink.writer l.fn.self l.self l.fn.sink l.sink l.keys

abbrev pub decreases-loop-self : goal.decreases-loop-self
decreases-loop-self g l = length l.keys - l.self.pressed
