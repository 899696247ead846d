use Rattle.ws_printing.proofs.Common.{encode_utf8_all, ◌≡◌, ◌*◌, ◌≤◌, length, take, map}
use Rattle.ws_printing.proofs.shown_text.characters.Given as goal

-- the cells so far
abbrev pub invariant-loop-cell : goal.invariant-loop-cell
invariant-loop-cell l = record {
  so_far : l.text.bytes ≡ encode_utf8_all (map (λ s. s.character) (take l.cell-index l.shown));
  short : length l.text.bytes ≤ 4 * l.cell-index;
}
