use Rattle.ws_extended.proofs.StateLaws.{none_stands, restored_row, restores, saved_is_body}
use Rattle.ws_extended.proofs.laws.restore_gives_back.Goals as goal

pub returns-clause-restored : goal.returns-clause-restored
returns-clause-restored c = restores

pub returns-clause-row : goal.returns-clause-row
returns-clause-row c = restored_row

pub returns-clause-none : goal.returns-clause-none
returns-clause-none c = none_stands

pub returns-clause-body : goal.returns-clause-body
returns-clause-body c = saved_is_body
