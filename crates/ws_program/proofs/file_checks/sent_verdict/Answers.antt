use Rattle.ws_program.proofs.file_checks.sent_verdict.Goals as goal

pub returns-in-Host : goal.returns-in-Host
returns-in-Host c = rw c.in-Host.is c.verdict_of.ensures

pub returns-in-ExtendedHost : goal.returns-in-ExtendedHost
returns-in-ExtendedHost c = rw c.in-ExtendedHost.is c.verdict_of-in-ExtendedHost.ensures

pub returns-in-Station : goal.returns-in-Station
returns-in-Station c = rw c.in-Station.is c.verdict_of-in-Station.ensures

pub returns-in-ExtendedStation : goal.returns-in-ExtendedStation
returns-in-ExtendedStation c = rw c.in-ExtendedStation.is c.verdict_of-in-ExtendedStation.ensures
