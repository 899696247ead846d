use Rattle.ws_end.proofs.Common.{◌≤◌, take, length, ◌-◌, IsAt, element_rules, reading_of}
use Rattle.ws_screen.proofs.Spelled.{Applied}
use Rattle.ws_end.proofs.AlarmLaws.{HasCounted}
use Rattle.ws_end.proofs.station.apply.apply_spelled.Given as goal

-- the elements that are whole so far are carried out, and weren't refused
abbrev pub invariant-loop-used : goal.invariant-loop-used
invariant-loop-used l = record {
  inside : l.used ≤ length l.bytes;
  stands : IsAt element_rules (reading_of l.machine) l.at;
  applied : Applied l.fn.screen (take l.used l.bytes) l.screen (reading_of l.machine).place
      (reading_of l.machine).begun;
  counted : HasCounted (take l.used l.bytes) (reading_of l.machine) l.alarms;
}

abbrev pub decreases-loop-used : goal.decreases-loop-used
decreases-loop-used l = length l.bytes - l.used
