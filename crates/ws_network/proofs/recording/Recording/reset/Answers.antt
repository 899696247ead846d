use Rattle.ws_network.proofs.recording.Recording.reset.Goals as goal

pub returns-in-Ok : goal.returns-in-Ok
returns-in-Ok g c = (c.args.peer, c.in-Ok.ensures.ok)
