use Rattle.ws_printing.proofs.play.HostEventTextAsPlay.put_as.Goals as goal

pub returns-in-SystemRequest : goal.returns-in-SystemRequest
returns-in-SystemRequest g c = rw c.in-SystemRequest.is c.put_to-in-SystemRequest.ensures
