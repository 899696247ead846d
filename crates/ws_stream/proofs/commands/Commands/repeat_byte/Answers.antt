use Rattle.std.proofs.Common.{inr, rules}
use Rattle.ws_stream.specs.declared.element.Element.TheVariants.{Ra}
use Rattle.ws_stream.proofs.commands.Commands.repeat_byte.Goals as goal

pub returns-in-Some : goal.returns-in-Some
returns-in-Some g c = inr (Ra c.args.to c.in-Some.byte, search rules, c.complete.ensures)
