use Rattle.ws_nego.proofs.Stages.{settled_quiet, settled_station, settled_host}
use Rattle.ws_nego.proofs.exchange.three_deliveries_suffice.Goals as goal

pub returns-clause-quiet : goal.returns-clause-quiet
returns-clause-quiet c = settled_quiet

pub returns-clause-station : goal.returns-clause-station
returns-clause-station c = settled_station

pub returns-clause-host : goal.returns-clause-host
returns-clause-host c = settled_host
