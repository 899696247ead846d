use Rattle.std.specs.List.{flat_map}
use Rattle.std.proofs.Common.{◌≡◌, ◌++◌, ◌+◌, ◌*◌, length, take}
use Rattle.ws_code.specs.TwoBytes.{two_bytes}
use Rattle.ws_stream.proofs.spell.append_words.Given as goal

abbrev pub invariant-loop-word : goal.invariant-loop-word
invariant-loop-word l =
    (l.into.items ≡ l.initial.into.items ++ flat_map two_bytes (take l.word-index l.words)) × (length
    l.into.items ≡ length l.initial.into.items + 2 * l.word-index)
