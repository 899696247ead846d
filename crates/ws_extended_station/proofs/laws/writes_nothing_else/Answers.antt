use Rattle.ws_extended_station.proofs.WrittenLaws.{all_written, record_written}
use Rattle.ws_extended_station.proofs.laws.writes_nothing_else.Goals as goal

pub returns-clause-all : goal.returns-clause-all
returns-clause-all c = all_written

pub returns-clause-record_ : goal.returns-clause-record_
returns-clause-record_ c = λ s next r. record_written s r next
