use Rattle.std.proofs.Common.{refl}
use Rattle.ws_extended.proofs.RollSteps.{top_more}
use Rattle.ws_extended.proofs.extended_commands.ExtendedCommands.roll_top.Goals as goal

pub returns-in-Some : goal.returns-in-Some
returns-in-Some c =
    (refl, refl, top_more c.args.self.now.place c.args.control c.args.byte c.requires c.in-Some.ensures.0)
