use Rattle.ws_extended_station.proofs.SavedLaws.{comes_back, saved_body}
use Rattle.ws_extended_station.proofs.laws.saved_screen_comes_back.Goals as goal

pub returns-clause-body : goal.returns-clause-body
returns-clause-body c = saved_body

pub returns-clause-back : goal.returns-clause-back
returns-clause-back c = comes_back
