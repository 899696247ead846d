use Rattle.std.proofs.Common.{rules}
use Rattle.ws_extended.proofs.RollSteps.{roll_begun}
use Rattle.ws_extended.proofs.extended_commands.steps.behind_escape.Goals as goal

pub returns-in_default-code : goal.returns-in_default-code
returns-in_default-code c = record {
  answered = search rules;
  rolls = λ none is. roll_begun c.args.place c.in-InProfile.is;
  left = search rules;
}
