use Rattle.ws_record.proofs.Common.{◌≡◌, refl, ap, ◌∙◌, length, arith, opcode_byte, head_in, Keeping, Opcode}
use Rattle.ws_record.proofs.Headers.{header_more}
use Rattle.ws_record.proofs.OpenRecords.{opcode_refused, opcode_byte_read}
use Rattle.ws_record.proofs.open_record.OpenRecord.take_opcode.Goals as goal

pub returns-in-None-clause-step : goal.returns-in-None-clause-step
returns-in-None-clause-step g c = λ so_far r.
    opcode_refused _ r (omega arith) c.args.byte c.requires.header c.in-None.ensures.none

pub returns-in-Some-clause-step : goal.returns-in-Some-clause-step
returns-in-Some-clause-step g c =
    λ so_far r. let reads = rw (← c.self.view_is) at r in
    let nine : length c.self.inside.header ≡ 9 =
    ap (λ (k : Keeping g.row.B-Place.Denot). length k.header) c.self.view_is ∙ c.requires.header in
    let says : c.head_of-head.result ≡ head_in c.self.inside.header c.in-Some.opcode =
    rw (← c.as_slice.ensures.value) c.head_of-head.ensures in
    let some : (o : Opcode) × (opcode_byte o ≡ c.args.byte) = (c.in-Some.opcode, c.in-Some.ensures.some) in
    let right =
    header_more _ c.args.byte c.self.invariant.right (λ e. absurd (omega arith)) (grind (arith, some, nine)) in
    opcode_byte_read g.B.Code.rules reads (omega (arith, nine)) _ c.args.byte (omega arith) right c.push.ensures refl
    refl c.head_of-head.result c.in-Some.opcode nine says c.in-Some.ensures.some (omega arith)
