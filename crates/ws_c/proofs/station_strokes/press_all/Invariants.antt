use Rattle.std.specs.Prelude.{Ok}
use Rattle.std.proofs.Common.{take}
use Rattle.ws_keys.specs.Strokes.{keys_of}
use Rattle.ws_c.specs.Strokes.{AreKeyed}
use Rattle.ws_c.proofs.station_strokes.press_all.Given as goal

abbrev pub invariant-loop-run : goal.invariant-loop-run
invariant-loop-run g l = AreKeyed g.S.PressesKeys.presses (keys_of (take l.run-index l.runs)) l.fn.station l.station (Ok tt)
