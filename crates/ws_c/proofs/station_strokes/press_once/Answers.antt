use Rattle.std.proofs.Common.{refl}
use Rattle.ws_c.proofs.station_strokes.press_once.Goals as goal

pub returns-in-Ok : goal.returns-in-Ok
returns-in-Ok g c = (c.press_key.new.self, c.press_key.result, c.press_key.ensures, rw c.in-Ok.is (refl, refl))

pub returns-in-Err : goal.returns-in-Err
returns-in-Err g c = (c.press_key.new.self, c.press_key.result, c.press_key.ensures, rw c.in-Err.is (refl, refl))
