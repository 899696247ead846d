use Rattle.ws_session.proofs.world.line.Line.cross_piece.Goals as goal

pub returns-clause-fault : goal.returns-clause-fault
returns-clause-fault g c = rw c.copy_from_slice.ensures.after at c.carry.ensures.fault
