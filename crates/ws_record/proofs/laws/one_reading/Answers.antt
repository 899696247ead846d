use Rattle.ws_record.proofs.Reading.{one_spelling}
use Rattle.ws_record.proofs.laws.one_reading.Goals as goal

pub returns : goal.returns
returns g c = one_spelling g.B.Code.rules g.met.B.Code.prefix_free g.met.B.Code.begins
