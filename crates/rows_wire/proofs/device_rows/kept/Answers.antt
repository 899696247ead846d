use Rattle.std.proofs.Common.{◌∙◌, ap, List, ℕ, ◌++◌}
use Rattle.ws_code.specs.Device.{Held}
use Rattle.ws_code.proofs.DeviceLaws.{held_went_out}
use Rattle.rows_wire.proofs.device_rows.kept.Goals as goal

pub returns : goal.returns
returns c = record {
  ok = c.into_inner.ensures ∙ held_went_out c.new-sink.result c.write_whole.new.sink
      c.args.bytes.now c.in_ok-write_whole.ensures.ok
      ∙ ap (λ (l : List ℕ). l ++ c.args.bytes.now) c.new-sink.ensures.bytes;
}
