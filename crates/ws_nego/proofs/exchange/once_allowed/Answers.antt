use Rattle.ws_nego.proofs.Stages.{station_then, both_then, host_then}
use Rattle.ws_nego.proofs.exchange.once_allowed.Goals as goal

pub returns-clause-station : goal.returns-clause-station
returns-clause-station c = station_then

pub returns-clause-then_host : goal.returns-clause-then_host
returns-clause-then_host c = both_then

pub returns-clause-host : goal.returns-clause-host
returns-clause-host c = host_then
