-- How many bytes a list of words has.
use Rattle.std.specs.List.{flat_map}
use Rattle.std.specs.Prelude.{◌≡◌, ℕ, ◌*◌, List, [], ◌∷◌, length}
use Rattle.std.proofs.Common.{arith}
use Rattle.ws_code.specs.TwoBytes.{two_bytes}

-- words have two bytes each
pub words_length : (ws : List ℕ) → length (flat_map two_bytes ws) ≡ 2 * length ws
words_length [] = omega arith
words_length (w ∷ ws) = omega (arith, words_length ws)
