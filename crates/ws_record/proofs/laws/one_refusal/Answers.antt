use Rattle.ws_record.proofs.OpenPrefixes.{refused_forms}
use Rattle.ws_record.proofs.laws.one_refusal.Goals as goal

pub returns : goal.returns
returns g c =
    let forms = refused_forms g.B.Code.rules g.met.B.Code.begins g.met.B.Body.can_end g.met.B.Code.bytes in
    record { named = λ b p r. (forms b p r).0; and_back = λ b p r. (forms b p r).1 }
