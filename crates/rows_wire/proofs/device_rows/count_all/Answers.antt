use Rattle.std.proofs.Common.{◌≢◌, ◌++◌, length, take, arith, length-append}
use Rattle.std.proofs.lemmas.List.{length-take-le}
use Rattle.ws_code.proofs.DeviceLaws.{gave_more, take_some}
use Rattle.rows_wire.proofs.device_rows.count_all.Goals as goal

pub loop-preserved : goal.loop-preserved
loop-preserved g c =
    let given = take c.in-Ok.given c.read.new.into in
    let before = c.loop.invariant.gave in
    let some : c.in-Ok.given ≢ 0 = c.in-Ok.given-test.1 in
    record {
      fits = omega (arith, c.in-Ok.ensures.ok.0);
      gave = (
        before.0 ++ given,
        omega (
          arith,
          before.1,
          length-append before.0 given,
          length-take-le c.in-Ok.given c.read.new.into c.in-Ok.ensures.ok.0,
        ),
        gave_more g.S.Source.reader c.args.source.now c.loop.source c.read.new.self c.loop.counter
            before.0 (length c.loop.into) given before.2 (omega arith) c.in-Ok.ensures.ok.1
            (take_some c.read.new.into c.in-Ok.given some c.in-Ok.ensures.ok.0) c.in-Ok.ensures.ok.2,
      );
    }
