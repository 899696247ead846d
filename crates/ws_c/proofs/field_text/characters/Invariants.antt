use Rattle.std.specs.Str.{encode_utf8_all}
use Rattle.std.proofs.Common.{◌≡◌, ◌*◌, ◌≤◌, length, take, map}
use Rattle.ws_c.specs.Texts.{char_shown}
use Rattle.ws_c.proofs.field_text.characters.Given as goal

abbrev pub invariant-loop-byte : goal.invariant-loop-byte
invariant-loop-byte l = record {
  so_far : l.text.bytes ≡ encode_utf8_all (map (char_shown l.page) (take l.byte-index l.cells));
  short : length l.text.bytes ≤ 3 * l.byte-index;
}
