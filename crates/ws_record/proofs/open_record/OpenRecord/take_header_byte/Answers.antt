use Rattle.ws_record.proofs.Common.{refl, ap, ◌∙◌, ◌<◌, length, arith, Keeping}
use Rattle.ws_record.proofs.OpenRecords.{header_refused, ten_there, body_refused, header_byte}
use Rattle.ws_record.proofs.open_record.OpenRecord.take_header_byte.Goals as goal

pub returns-then-len-ge10-clause-step : goal.returns-then-len-ge10-clause-step
returns-then-len-ge10-clause-step g c = λ so_far r.
    let reads = rw (← c.self.view_is) at r in
    let ten = ten_there _ reads (omega (arith, c.len.ensures.value, c.if-len-ge10.true)) in
    body_refused _ reads ten c.args.byte
    (ap (λ (k : Keeping g.row.B-Place.Denot). k.left) c.self.view_is ∙ c.requires)

pub returns-in-Some-clause-step : goal.returns-in-Some-clause-step
returns-in-Some-clause-step g c = λ so_far r.
    let bad = rw c.as_slice.ensures.value at c.in-Some.ensures.some in
    header_refused _ (rw (← c.self.view_is) at r) (omega (arith, c.len.ensures.value, c.if-len-ge10.false)) c.args.byte
    _ bad.0 bad.1

pub returns-clause-step : goal.returns-clause-step
returns-clause-step g c = λ so_far r.
    let reads = rw (← c.self.view_is) at r in
    let short : length c.self.inside.header < 9 =
    omega (arith, c.len.ensures.value, c.if-len-ge10.false, c.len-2.ensures.value, c.if-len-eq9.false) in
    let right = rw c.as_slice.ensures.value at c.in_default.ensures.none in
    header_byte g.B.Code.rules reads (omega (arith, short)) _ c.args.byte (omega arith) (right c.self.invariant.right)
    c.push.ensures refl refl short
