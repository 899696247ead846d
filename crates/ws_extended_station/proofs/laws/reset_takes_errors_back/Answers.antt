use Rattle.ws_extended_station.proofs.SavedLaws.{error_taken_back, reset_idle}
use Rattle.ws_extended_station.proofs.laws.reset_takes_errors_back.Goals as goal

pub returns-clause-back : goal.returns-clause-back
returns-clause-back c = error_taken_back

pub returns-clause-none : goal.returns-clause-none
returns-clause-none c = reset_idle
