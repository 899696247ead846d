use Rattle.std.proofs.Common.{◌≤◌, ◌-◌, length, take}
use Rattle.ws_code.specs.Run.{IsAt, RunsOn, intake, with_keep}
use Rattle.ws_extended.specs.ExtendedElements.{extended_rules}
use Rattle.ws_extended.specs.ExtendedRuns.{reading_by}
use Rattle.ws_extended.proofs.extended_commands.ExtendedCommandsCode.run.Given as goal

-- the values before lead from the machine at the beginning to this one, and so with the keep
abbrev pub invariant-loop-used : goal.invariant-loop-used
invariant-loop-used g l = record {
  inside : l.used ≤ length l.values;
  on : RunsOn (intake extended_rules g.K.Keep.keeper) (with_keep (reading_by l.fn.self) l.fn.keep)
      (take l.used l.values) (with_keep (reading_by l.self) l.keep);
  is_at : IsAt extended_rules (reading_by l.self) l.at;
}

abbrev pub decreases-loop-used : goal.decreases-loop-used
decreases-loop-used g l = length l.values - l.used
