use Rattle.std.proofs.Common.{◌≡◌, ℕ, ◌≤◌, List, length, take}
use Rattle.ws_c.specs.Calls.{holds_front}
use Rattle.ws_c.specs.Decoding.{DecoderTakesOn}
use Rattle.ws_c.specs.Pushes.{TakesAll}
use Rattle.ws_c.proofs.decoder.push_all.Given as goal

abbrev pub invariant-loop-at : goal.invariant-loop-at
invariant-loop-at g l = record {
  run : List ℕ;
  count : length run ≡ l.cells;
  takes : TakesAll (DecoderTakesOn g.C.Code.rules g.C.PutsBytes.put_by) l.fn.decoder (take l.at l.bytes) run l.decoder;
  put : l.buffer ≡ holds_front run l.fn.buffer;
  few : l.cells ≤ length l.buffer;
}
