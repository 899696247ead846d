use Rattle.std.proofs.Common.{refl}
use Rattle.ws_extended.proofs.RollSteps.{control_more}
use Rattle.ws_extended.proofs.extended_commands.ExtendedCommands.roll_control.Goals as goal

pub returns-in-Some : goal.returns-in-Some
returns-in-Some c =
    (refl, refl, control_more c.args.self.now.place c.args.byte c.requires c.in-Some.ensures.0)
