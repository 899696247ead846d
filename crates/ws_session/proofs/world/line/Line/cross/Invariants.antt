use Rattle.ws_session.proofs.Common.{◌≡◌, ◌≤◌, List, ◌-◌, take, drop, length, Crossing, HaveCrossed, all_sent, all_read}
use Rattle.ws_code.specs.Device.{on_devices}
use Rattle.ws_session.proofs.world.line.Line.cross.Given as goal

abbrev pub decreases-loop-at : goal.decreases-loop-at
decreases-loop-at g l = length l.initial.bytes - l.at

-- some pieces have crossed, and what was read of them stands in their place
abbrev pub invariant-loop-at : goal.invariant-loop-at
invariant-loop-at g l = record {
  within : l.at ≤ length l.bytes;
  crossings : List Crossing;
  crossed : HaveCrossed (on_devices g.S.Sink.writer g.R.Source.reader) l.fn.self crossings l.self;
  sent : all_sent crossings ≡ take l.at l.fn.bytes;
  read : all_read crossings ≡ take l.at l.bytes;
  left : drop l.at l.bytes ≡ drop l.at l.fn.bytes;
}
