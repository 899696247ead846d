use Rattle.std.proofs.Common.{refl}
use Rattle.ws_text.proofs.Prints.{whole_out}
use Rattle.ws_program.proofs.all_told.tell.Goals as goal

pub returns-in-Open-clause-ok : goal.returns-in-Open-clause-ok
returns-in-Open-clause-ok g c = (c.with_told.ensures, rw c.in-Open.is at (whole_out c.put_told.ensures))

pub returns-in-Failed-clause-err : goal.returns-in-Failed-clause-err
returns-in-Failed-clause-err g c = (refl, rw c.in-Failed.is at (whole_out c.put_told.ensures))
