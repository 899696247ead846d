use Rattle.ws_record.proofs.Common.{is_some, IfNone, true, ◌≡◌, refl, ◌<◌, length, false, arith, Bool, Option, Some}
use Rattle.ws_record.proofs.Common.{None, spelling_of, IsBadSequence, IsTooBig}
use Rattle.ws_record.proofs.Encodings.{first_at}
use Rattle.ws_record.proofs.encoder.check_items.Goals as goal

none_says : {T P : Type 0} (o : Option T) → is_some o ≡ false → IfNone o P → P
none_says None e h = h
none_says (Some x) e h = cc

pub returns-then-not-is_body-clause-fault : goal.returns-then-not-is_body-clause-fault
returns-then-not-is_body-clause-fault g c =
    let rules = g.B.Code.rules in
    first_at rules (IsBadSequence rules) _ _ _
    c.loop-index-test.true c.index-items-index.is c.loop-index.invariant.encoded (rw c.in-Record.is
    (λ w. (let e : ◌≡◌ {A = Bool} false true = c.if-not-is_body.ensures.1 (rw c.as_slice-units.ensures w) in cc)))

pub returns-then-is_none-clause-fault : goal.returns-then-is_none-clause-fault
returns-then-is_none-clause-fault g c =
    let rules = g.B.Code.rules in
    let long : 65525 < length (spelling_of rules c.as_slice-units.result.now) =
    none_says c.body_length.result c.if-is_none.ensures c.body_length.ensures.none in
    first_at rules (IsTooBig rules) _ _ _ c.loop-index-test.true c.index-items-index.is c.loop-index.invariant.encoded
    (rw c.in-Record.is (
      rw c.as_slice-units.ensures at (c.if-not-is_body.ensures.0 refl),
      omega (arith, rw c.as_slice-units.ensures at long),
    ))
