use Rattle.std.proofs.Common.{◌≡◌, ◌≤◌, ◌*◌, List, ℕ, length}
use Rattle.ws_code.specs.Device.{Gave}
use Rattle.rows_wire.proofs.device_rows.count_all.Given as goal

abbrev pub invariant-loop : goal.invariant-loop
invariant-loop g l = record {
  fits : l.count ≤ 4 * l.counter;
  gave : (bytes : List ℕ) × (l.count ≡ length bytes) × Gave g.S.Source.reader l.fn.source l.source
      l.counter bytes;
}
