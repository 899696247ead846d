use Rattle.std.proofs.Common.{arith}
use Rattle.std.proofs.lemmas.Result.{err_from_is_err_and}
use Rattle.ws_c.proofs.StrokeLaws.{run_more, run_stops}
use Rattle.ws_c.proofs.station_strokes.press_run.Goals as goal

pub loop-preserved : goal.loop-preserved
loop-preserved g c = record {
  end = c.loop.invariant.end;
  so_far = run_more g.S.PressesKeys.presses c.loop.counter c.args.run.now.key c.args.station.now c.loop.station
      c.press_once.new.station c.loop.invariant.so_far c.in_ok-press_once.ensures;
}

pub returns-in_err-press_once : goal.returns-in_err-press_once
returns-in_err-press_once g c =
    let p = err_from_is_err_and c.from_residual.result c.from_residual.ensures.1 in
    rw (p.1, p.2) (run_stops g.S.PressesKeys.presses c.args.run.now.times c.loop.counter c.args.run.now.key
    c.args.station.now c.loop.station c.press_once.new.station _
    (omega (arith, c.loop-test.true, c.loop.invariant.end)) c.loop.invariant.so_far c.in_err-press_once.ensures)
