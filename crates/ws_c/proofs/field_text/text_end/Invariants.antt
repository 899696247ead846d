use Rattle.std.proofs.Common.{◌≡◌, ◌≤◌, take}
use Rattle.ws_keys.specs.Contents.{without_trailing_nulls}
use Rattle.ws_c.proofs.field_text.text_end.Given as goal

abbrev pub invariant-loop-at : goal.invariant-loop-at
invariant-loop-at l = (l.end ≤ l.at) × (without_trailing_nulls (take l.at l.cells) ≡ take l.end l.cells)
