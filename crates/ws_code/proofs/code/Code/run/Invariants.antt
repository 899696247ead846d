use Rattle.std.proofs.Common.{take}
use Rattle.ws_code.specs.Run.{Reading, IsAt, RunsOn, intake, with_keep}
use Rattle.ws_code.proofs.code.Code.run.Given as goal

abbrev pub invariant-loop-index : goal.invariant-loop-index
invariant-loop-index g l =
    let from : Reading g.row.Self-Place.Denot =
    record { place = g.Self.Code.place l.fn.self; begun = g.Self.Code.unfinished l.fn.self } in
    let to : Reading g.row.Self-Place.Denot =
    record { place = g.Self.Code.place l.self; begun = g.Self.Code.unfinished l.self } in
    RunsOn (intake g.Self.Code.rules g.K.Keep.keeper) (with_keep from l.fn.keep) (take l.index l.values)
    (with_keep to l.keep)
    × IsAt g.Self.Code.rules to l.at
