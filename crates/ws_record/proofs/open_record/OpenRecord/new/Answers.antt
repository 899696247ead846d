use Rattle.ws_record.proofs.Common.{◌∙◌}
use Rattle.ws_record.proofs.OpenRecords.{reads_nothing}
use Rattle.ws_record.proofs.open_record.OpenRecord.new.Goals as goal

pub returns : goal.returns
returns g c = reads_nothing _ g.met.B.Code.begins _ c.new.ensures
    (c.start.ensures.place ∙ c.first-place.ensures) c.start.ensures.fresh
