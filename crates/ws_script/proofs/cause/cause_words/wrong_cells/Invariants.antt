use Rattle.std.proofs.Common.{◌≡◌, ◌++◌, List, ℕ, length}
use denote.Shadow.{shadow}
use denote.Text.{Utf8}
use Rattle.ws_script.proofs.cause.cause_words.wrong_cells.Given as goal

-- what is left of the word
abbrev pub invariant-loop-pair : goal.invariant-loop-pair
invariant-loop-pair l = shadow (Utf8 l.rest) × ((front : List ℕ) × (l.fn.word ≡ front ++ l.rest))

abbrev pub decreases-loop-pair : goal.decreases-loop-pair
decreases-loop-pair l = length l.rest
