use Rattle.ws_printing.proofs.Common.{◌≡◌, ◌++◌, ◌+◌, length, take, inl, inr, refl, ap, ◌∙◌, arith, length-append}
use Rattle.ws_printing.proofs.Common.{length-take-le, one_more, gave_more, take_some}
use Rattle.ws_printing.proofs.SourceReads.{unrefused}
use Rattle.ws_printing.proofs.check.verdict_from.Goals as goal

pub returns-in-Some-clause-given : goal.returns-in-Some-clause-given
returns-in-Some-clause-given g c =
    let inv = c.loop.invariant in
    let piece = take c.in-Ok.given c.read.new.into in
    let long = length-take-le c.in-Ok.given c.read.new.into c.in-Ok.ensures.ok.0 in
    let refused = c.in-Some.ensures inv.bytes inv.counts (omega (arith, inv.few, long, c.in-Ok.ensures.ok.0)) in (
      inv.bytes ++ piece,
      inr (
        c.loop.counter + 1,
        gave_more g.R.Source.reader _ c.loop.source _ c.loop.counter inv.bytes (length c.loop.room)
            piece inv.gave (omega arith) c.in-Ok.ensures.ok.1
            (take_some c.read.new.into c.in-Ok.given c.in-Ok.given-test.1 c.in-Ok.ensures.ok.0) c.in-Ok.ensures.ok.2,
        (c.in-Some.place, c.in-Some.reason, refused),
      ),
      refused,
      omega (arith, inv.sized, length-append inv.bytes piece, long),
    )

pub loop-preserved : goal.loop-preserved
loop-preserved g c =
    let inv = c.loop.invariant in
    let piece = take c.in-Ok.given c.read.new.into in
    let long = length-take-le c.in-Ok.given c.read.new.into c.in-Ok.ensures.ok.0 in
    record {
      bytes = inv.bytes ++ piece;
      gave = gave_more g.R.Source.reader _ c.loop.source _ c.loop.counter inv.bytes
          (length c.loop.room) piece inv.gave (omega arith) c.in-Ok.ensures.ok.1
          (take_some c.read.new.into c.in-Ok.given c.in-Ok.given-test.1 c.in-Ok.ensures.ok.0) c.in-Ok.ensures.ok.2;
      counts = c.in-None.ensures inv.bytes inv.counts (omega (arith, inv.few, long, c.in-Ok.ensures.ok.0));
      sized = omega (arith, inv.sized, length-append inv.bytes piece, long);
      few = omega (arith, inv.few, long, c.in-Ok.ensures.ok.0, length-append inv.bytes piece);
    }

pub returns-in-Err-clause-failed : goal.returns-in-Err-clause-failed
returns-in-Err-clause-failed g c =
    let inv = c.loop.invariant in (
      refl,
      (
        inv.bytes,
        inl (record {
          before = c.loop.source;
          count = c.loop.counter;
          gave = inv.gave;
          one_left = omega arith;
          room = length c.loop.room;
          last = c.in-Err.ensures.err.0;
          counted = c.in-Err.ensures.err.1 ∙ ap one_more inv.gave.uncounted;
        }),
        unrefused g.B.Code.rules inv.bytes inv.counts.leads.opened,
      ),
    )

pub returns-clause-failed : goal.returns-clause-failed
returns-clause-failed g c =
    let inv = c.loop.invariant in (
      refl,
      (
        inv.bytes,
        inr (rw (let e : c.loop.counter ≡ 4294967296 = omega arith in e) at inv.gave),
        unrefused g.B.Code.rules inv.bytes inv.counts.leads.opened,
      ),
    )
