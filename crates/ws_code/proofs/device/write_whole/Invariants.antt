use Rattle.std.proofs.Common.{length, ◌-◌, ◌≤◌, take}
use Rattle.ws_code.specs.Device.{WentOut}
use Rattle.ws_code.proofs.device.write_whole.Given as goal

-- so far, all bytes before the place went out
abbrev pub invariant-loop-at : goal.invariant-loop-at
invariant-loop-at g l = record {
  within : l.at ≤ length l.bytes;
  went_out : WentOut g.S.Sink.writer l.fn.sink l.sink (take l.at l.bytes);
}

abbrev pub decreases-loop-at : goal.decreases-loop-at
decreases-loop-at g l = length l.bytes - l.at
