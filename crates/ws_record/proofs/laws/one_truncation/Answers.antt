use Rattle.ws_record.proofs.OpenPrefixes.{truncated_forms}
use Rattle.ws_record.proofs.laws.one_truncation.Goals as goal

pub returns : goal.returns
returns g c =
    let forms = truncated_forms g.B.Code.rules g.met.B.Code.begins g.met.B.Body.can_end g.met.B.Code.bytes in
    record { named = λ b. (forms b).0; and_back = λ b. (forms b).1 }
