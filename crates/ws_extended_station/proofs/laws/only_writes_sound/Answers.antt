use Rattle.ws_extended_station.proofs.AlarmLaws.{alarms_behind_record, alarms_behind_reset}
use Rattle.ws_extended_station.proofs.laws.only_writes_sound.Goals as goal

pub returns-clause-records : goal.returns-clause-records
returns-clause-records c = alarms_behind_record

pub returns-clause-reset : goal.returns-clause-reset
returns-clause-reset c = alarms_behind_reset
