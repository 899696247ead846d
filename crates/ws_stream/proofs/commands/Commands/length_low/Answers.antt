use Rattle.std.proofs.Common.{inr, rules, arith}
use Rattle.std.proofs.lemmas.Grind.{common_steps}
use Rattle.ws_stream.specs.declared.element.Element.TheVariants.{Sf}
use Rattle.ws_stream.proofs.commands.Commands.length_low.Goals as goal
use Rattle.ws_stream.proofs.commands.Commands.length_low.Goals.{in-Some, in-None}

pub returns : goal.returns
returns g c = elim c.match-format.branch [
  | in-Some w ↦ inr (Sf c.of-field.result, first_of (search rules, grind (arith, common_steps)), c.complete.ensures)
  | in-None w ↦ inr (Sf c.of-field.result, first_of (search rules, grind (arith, common_steps)), c.complete.ensures)
]
