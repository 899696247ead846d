use Rattle.ws_stream.proofs.commands.Commands.step.Goals as goal

pub returns-in-RepeatByte : goal.returns-in-RepeatByte
returns-in-RepeatByte g c = rw c.in-RepeatByte.is c.repeat_byte.ensures
