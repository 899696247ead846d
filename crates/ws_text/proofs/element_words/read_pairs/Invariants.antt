use Rattle.ws_text.proofs.Common.{take, map, ArePairs}
use Rattle.ws_text.proofs.element_words.read_pairs.Given as goal

abbrev pub invariant-loop-word : goal.invariant-loop-word
invariant-loop-word l = ArePairs (map (λ w. w.now) (take l.word-index l.words)) l.pairs.items
