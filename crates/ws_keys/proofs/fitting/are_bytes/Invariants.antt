use Rattle.std.specs.Prelude.{is_some}
use Rattle.std.proofs.Common.{◌≡◌, drop}
use Rattle.ws_keys.specs.Readings.{bytes_in}
use Rattle.ws_keys.proofs.fitting.are_bytes.Given as goal

abbrev pub invariant-loop-part : goal.invariant-loop-part
invariant-loop-part l = is_some (bytes_in l.parts) ≡ is_some (bytes_in (drop l.part-index l.parts))
