use Rattle.ws_record.proofs.Common.{◌≡◌, ◌++◌, take, refl, length, inr, arith, length-append, length-take-le, gave_more}
use Rattle.ws_record.proofs.Common.{gave_all, take_some, handed_on}
use Rattle.ws_record.proofs.Faults.{feed_source}
use Rattle.ws_record.proofs.decode.decode_from.Goals as goal

pub returns-in_err-finish-in-Ok-eq0-clause-fault : goal.returns-in_err-finish-in-Ok-eq0-clause-fault
returns-in_err-finish-in-Ok-eq0-clause-fault g c =
    let zero : c.in-Ok-eq0.field-0 ≡ 0 = omega arith in
    let cut = c.in_err-finish-in-Ok-eq0.ensures.truncated _ _ c.loop.invariant.taken
    (omega (arith, c.loop.invariant.few)) in
    rw (handed_on c.from_residual.result c.from_residual.ensures.1, cut.0) (
      c.loop.invariant.bytes,
      (gave_all g.S.Source.reader _ c.loop.source _ c.loop.counter c.loop.invariant.bytes
          (length c.loop.piece) c.loop.invariant.gave (omega arith) (omega arith) (rw zero at c.in-Ok-eq0.ensures.ok.1)
          c.in-Ok-eq0.ensures.ok.2),
      refl,
      cut.1,
    )

pub returns-in-Ok-eq0-clause-accepted : goal.returns-in-Ok-eq0-clause-accepted
returns-in-Ok-eq0-clause-accepted g c =
    let zero : c.in-Ok-eq0.field-0 ≡ 0 = omega arith in (
      c.loop.invariant.bytes,
      (gave_all g.S.Source.reader _ c.loop.source _ c.loop.counter
          c.loop.invariant.bytes (length c.loop.piece) c.loop.invariant.gave (omega arith) (omega arith)
          (rw zero at c.in-Ok-eq0.ensures.ok.1) c.in-Ok-eq0.ensures.ok.2),
      c.in_ok-finish-in-Ok-eq0.ensures.ok.1 _ _ c.loop.invariant.taken,
    )

pub returns-in_err-take_all-in-Ok-clause-fault : goal.returns-in_err-take_all-in-Ok-clause-fault
returns-in_err-take_all-in-Ok-clause-fault g c =
    rw (handed_on c.from_residual-in_err-take_all-in-Ok.result
    c.from_residual-in_err-take_all-in-Ok.ensures.1) (feed_source _ _ _ _ _ _ _ _ (gave_more g.S.Source.reader _ c.loop.source _ c.loop.counter c.loop.invariant.bytes (length c.loop.piece) (take
    c.in-Ok.given c.read.new.into) c.loop.invariant.gave (omega arith) c.in-Ok.ensures.ok.1
    (take_some c.read.new.into c.in-Ok.given c.in-Ok.given-test.1 c.in-Ok.ensures.ok.0) c.in-Ok.ensures.ok.2)
    (c.in_err-take_all-in-Ok.ensures.fault c.loop.invariant.bytes c.loop.invariant.taken (omega
    (arith, length-take-le c.in-Ok.given c.read.new.into c.in-Ok.ensures.ok.0, c.in-Ok.ensures.ok.0))))

pub loop-preserved : goal.loop-preserved
loop-preserved g c =
    let long = length-take-le c.in-Ok.given c.read.new.into c.in-Ok.ensures.ok.0 in
    record {
      bytes = c.loop.invariant.bytes ++ take c.in-Ok.given c.read.new.into;
      gave = gave_more g.S.Source.reader _ c.loop.source _ c.loop.counter c.loop.invariant.bytes
          (length c.loop.piece) (take c.in-Ok.given c.read.new.into) c.loop.invariant.gave (omega arith)
          c.in-Ok.ensures.ok.1 (take_some c.read.new.into c.in-Ok.given c.in-Ok.given-test.1 c.in-Ok.ensures.ok.0)
          c.in-Ok.ensures.ok.2;
      taken = c.in_ok-take_all-in-Ok.ensures.taken c.loop.invariant.bytes c.loop.invariant.taken
          (omega (arith, c.loop.invariant.few, long, c.in-Ok.ensures.ok.0));
      few = omega (
        arith,
        c.in-Ok.ensures.ok.0,
        length-append c.loop.invariant.bytes
            (take c.in-Ok.given c.read.new.into),
      );
    }

pub returns-clause-fault : goal.returns-clause-fault
returns-clause-fault g c =
    let inv = c.loop.invariant in
    (inv.bytes, inr (rw (let e : c.loop.counter ≡ 4294967296 = omega arith in e) at inv.gave))
