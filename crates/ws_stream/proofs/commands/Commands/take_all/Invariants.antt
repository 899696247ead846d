use Rattle.std.proofs.Common.{take}
use Rattle.ws_code.specs.Run.{RunsOn, intake, with_keep}
use Rattle.ws_stream.specs.Elements.{element_rules}
use Rattle.ws_stream.specs.Taking.{reading_of}
use Rattle.ws_stream.proofs.commands.Commands.take_all.Given as goal

-- the values before lead from the machine at the beginning to this one, and so with the keep
abbrev pub invariant-loop-index : goal.invariant-loop-index
invariant-loop-index g l =
    RunsOn (intake element_rules g.K.Keep.keeper) (with_keep (reading_of l.fn.self) l.fn.keep) (take l.index l.values)
    (with_keep (reading_of l.self) l.keep)
