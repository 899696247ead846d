use Rattle.std.specs.Prelude.{Ok}
use Rattle.std.proofs.Common.{◌≡◌, replicate}
use Rattle.ws_c.specs.Strokes.{AreKeyed}
use Rattle.ws_c.proofs.station_strokes.press_run.Given as goal

abbrev pub invariant-loop : goal.invariant-loop
invariant-loop g l = record {
  end : l.end ≡ l.run.times;
  so_far : AreKeyed g.S.PressesKeys.presses (replicate l.counter l.run.key) l.fn.station l.station (Ok tt);
}
