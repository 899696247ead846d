use Rattle.ws_stream.proofs.commands.CommandsCode.run.Goals as goal

pub returns-clause-run : goal.returns-clause-run
returns-clause-run g c = rw c.standing.ensures c.take_all-run.ensures.run
