use Rattle.std.specs.List.{range_with_len}
use Rattle.std.specs.Str.{encode_utf8_all}
use Rattle.std.proofs.Common.{◌≡◌, ◌+◌, ◌*◌, ◌≤◌, length, map}
use Rattle.ws_screen.specs.Lines.{attribute_at}
use Rattle.ws_c.specs.Pages.{char_at}
use Rattle.ws_c.proofs.page_text.text_on.Given as goal

abbrev pub invariant-loop-column : goal.invariant-loop-column
invariant-loop-column l = record {
  so_far : l.text.bytes ≡ encode_utf8_all (map (char_at l.page l.cells) (range_with_len l.first l.column));
  short : length l.text.bytes ≤ 3 * l.column;
  in_force : l.attribute ≡ attribute_at l.cells (l.first + l.column);
}
