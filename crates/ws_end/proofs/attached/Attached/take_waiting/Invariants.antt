use Rattle.ws_end.proofs.Common.{◌≡◌, List, [], ◌++◌, ℕ, length, all_came, HaveLed}
use Rattle.ws_code.specs.Device.{on_devices}
use Rattle.ws_end.proofs.attached.Attached.take_waiting.Given as goal

abbrev pub decreases-loop-self : goal.decreases-loop-self
decreases-loop-self g l = length l.self.waiting

-- these bytes have been taken, and nothing was told
abbrev pub invariant-loop-self : goal.invariant-loop-self
invariant-loop-self g l = record {
  bytes : List ℕ;
  led : HaveLed g.E.End.behaviour (on_devices g.K.Sink.writer g.S.Source.reader)
      l.fn.self l.self (all_came bytes) [];
  left : l.fn.self.waiting ≡ bytes ++ l.self.waiting;
  unread : l.self.source ≡ l.fn.self.source;
  works : l.self.broken ≡ l.fn.self.broken;
}
