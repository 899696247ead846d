use Rattle.ws_text.proofs.Common.{refl}
use Rattle.ws_text.proofs.Prints.{whole_out}
use Rattle.ws_text.proofs.text.print.Goals as goal

pub returns-in-Open-clause-ok : goal.returns-in-Open-clause-ok
returns-in-Open-clause-ok g c = rw c.in-Open.is at (whole_out c.put_to.ensures)

pub returns-in-Failed-clause-fault : goal.returns-in-Failed-clause-fault
returns-in-Failed-clause-fault g c = (refl, rw c.in-Failed.is at (whole_out c.put_to.ensures))
