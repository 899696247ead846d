use Rattle.ws_program.proofs.file_checks.source_verdict.Goals as goal

pub returns-in-Host-clause-given : goal.returns-in-Host-clause-given
returns-in-Host-clause-given g c = rw c.in-Host.is c.verdict_from.ensures.given

pub returns-in-Host-clause-failed : goal.returns-in-Host-clause-failed
returns-in-Host-clause-failed g c = rw c.in-Host.is c.verdict_from.ensures.failed

pub returns-in-ExtendedHost-clause-given : goal.returns-in-ExtendedHost-clause-given
returns-in-ExtendedHost-clause-given g c = rw c.in-ExtendedHost.is c.verdict_from-in-ExtendedHost.ensures.given

pub returns-in-ExtendedHost-clause-failed : goal.returns-in-ExtendedHost-clause-failed
returns-in-ExtendedHost-clause-failed g c = rw c.in-ExtendedHost.is c.verdict_from-in-ExtendedHost.ensures.failed

pub returns-in-Station-clause-given : goal.returns-in-Station-clause-given
returns-in-Station-clause-given g c = rw c.in-Station.is c.verdict_from-in-Station.ensures.given

pub returns-in-Station-clause-failed : goal.returns-in-Station-clause-failed
returns-in-Station-clause-failed g c = rw c.in-Station.is c.verdict_from-in-Station.ensures.failed

pub returns-in-ExtendedStation-clause-given : goal.returns-in-ExtendedStation-clause-given
returns-in-ExtendedStation-clause-given g c = rw c.in-ExtendedStation.is c.verdict_from-in-ExtendedStation.ensures.given

pub returns-in-ExtendedStation-clause-failed : goal.returns-in-ExtendedStation-clause-failed
returns-in-ExtendedStation-clause-failed g c = rw c.in-ExtendedStation.is c.verdict_from-in-ExtendedStation.ensures.failed
