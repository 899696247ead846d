use Rattle.ws_program.proofs.make.make_sent.Goals as goal

pub returns-in-Host : goal.returns-in-Host
returns-in-Host g c = rw c.in-Host.is c.make_stream.ensures

pub returns-in-ExtendedHost : goal.returns-in-ExtendedHost
returns-in-ExtendedHost g c = rw c.in-ExtendedHost.is c.make_stream-in-ExtendedHost.ensures

pub returns-in-Station : goal.returns-in-Station
returns-in-Station g c = rw c.in-Station.is c.make_stream-in-Station.ensures

pub returns-in-ExtendedStation : goal.returns-in-ExtendedStation
returns-in-ExtendedStation g c = rw c.in-ExtendedStation.is c.make_stream-in-ExtendedStation.ensures
