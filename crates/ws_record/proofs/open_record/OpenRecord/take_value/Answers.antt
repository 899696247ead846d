use Rattle.ws_record.proofs.Common.{◌≡◌, arith}
use Rattle.ws_record.proofs.open_record.OpenRecord.take_value.Goals as goal

pub returns-then-self-gt0 : goal.returns-then-self-gt0
returns-then-self-gt0 g c = λ so_far r.
    let one : c.take_body.result.used ≡ 1 = omega (arith, c.take_body.ensures.within, c.take_body.ensures.used) in
    rw one at (c.take_body.ensures.taken so_far r)

pub returns-else-self-gt0 : goal.returns-else-self-gt0
returns-else-self-gt0 g c =
    λ so_far r. let one : c.take_header.result.used ≡ 1 =
    omega (arith, c.take_header.ensures.within, c.take_header.ensures.used) in
    rw one at (c.take_header.ensures.taken so_far r)
