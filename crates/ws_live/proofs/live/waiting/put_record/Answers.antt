use Rattle.ws_live.proofs.live.waiting.put_record.Goals as goal

pub returns-in-Some : goal.returns-in-Some
returns-in-Some g c = rw c.in-Some.is c.put_to.ensures
