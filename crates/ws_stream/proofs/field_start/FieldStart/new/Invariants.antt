use Rattle.std.specs.List.{list_all}
use Rattle.std.proofs.Common.{◌≡◌, take, true}
use Rattle.ws_stream.specs.FieldOrder.{is_control}
use Rattle.ws_stream.proofs.field_start.FieldStart.new.Given as goal

abbrev pub invariant-loop-control : goal.invariant-loop-control
invariant-loop-control l =
    (l.all ≡ take l.control-index l.controls) × (list_all is_control (take l.control-index l.controls) ≡ true)
