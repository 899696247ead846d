use Rattle.std.proofs.Common.{arith}
use Rattle.std.proofs.lemmas.Result.{err_from_is_err_and}
use Rattle.ws_c.proofs.StrokeLaws.{runs_more, runs_stop}
use Rattle.ws_c.proofs.station_strokes.press_all.Goals as goal

pub loop-run-preserved : goal.loop-run-preserved
loop-run-preserved g c = runs_more g.S.PressesKeys.presses c.args.runs.now c.loop-run.run-index c.run-item.result
    c.args.station.now c.loop-run.station c.press_run.new.station (omega arith) c.run-item.is c.loop-run.invariant
    c.in_ok-press_run.ensures

pub returns-in_err-press_run : goal.returns-in_err-press_run
returns-in_err-press_run g c =
    let p = err_from_is_err_and c.from_residual.result c.from_residual.ensures.1 in
    rw (p.1, p.2) (runs_stop g.S.PressesKeys.presses c.args.runs.now c.loop-run.run-index c.run-item.result
    c.args.station.now c.loop-run.station c.press_run.new.station _ (omega arith) c.run-item.is c.loop-run.invariant
    c.in_err-press_run.ensures)
