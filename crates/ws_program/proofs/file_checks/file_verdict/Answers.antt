use Rattle.std.proofs.Common.{refl}
use Rattle.ws_program.proofs.file_checks.file_verdict.Goals as goal

pub returns-in-Raw-clause-found : goal.returns-in-Raw-clause-found
returns-in-Raw-clause-found g c =
    let f = c.in_ok-source_verdict.ensures.given in (f.0, ((f.0, rw c.in-Raw.is refl), f.2), f.3)
