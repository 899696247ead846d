use Rattle.std.proofs.Common.{◌≡◌, ◌++◌, take}
use Rattle.ws_stream.proofs.spell.append.Given as goal

abbrev pub invariant-loop-byte : goal.invariant-loop-byte
invariant-loop-byte l = l.into.items ≡ l.initial.into.items ++ take l.byte-index l.bytes
