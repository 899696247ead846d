use Rattle.ws_extended_station.specs.Bytewise.{spelled_alike}
use Rattle.ws_extended_station.proofs.Beside.{items_there, keys_there}
use Rattle.ws_extended_station.proofs.BesideRuns.{runs_there}
use Rattle.ws_extended_station.proofs.laws.acts_as_profile.Goals as goal

pub returns-clause-items : goal.returns-clause-items
returns-clause-items c = items_there

pub returns-clause-keys : goal.returns-clause-keys
returns-clause-keys c = keys_there

pub returns-clause-spelled : goal.returns-clause-spelled
returns-clause-spelled c = spelled_alike

pub returns-clause-runs : goal.returns-clause-runs
returns-clause-runs c = runs_there
