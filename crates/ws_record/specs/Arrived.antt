-- Items that are on their way by their plain spelling: an item is there with the last byte of its spelling (RFC 854,
-- RFC 885)

use Rattle.std.specs.Prelude.{ℕ, ◌-◌, ◌==◌, List, [], ◌∷◌, if◌then◌else◌, nat_lt, Option, Some, None, length}
use Rattle.ws_code.specs.Code.{Rules}
use Rattle.ws_record.specs.declared.record.Item.{Item}
use Rattle.ws_record.specs.Encode.{item_spelling}

module _ {Place U : Type 0} (rules : Rules Place U) where
  -- the item whose spelling ends after so many bytes
  abbrev pub ending_at : List (Item U) → ℕ → Option (Item U)
  ending_at [] n = None
  ending_at (item ∷ items) n = let size = length (item_spelling rules item) in
      if n == size then Some item else (if nat_lt n size then None else ending_at items (n - size))

  -- the items that have arrived with so many bytes
  abbrev pub arrived : List (Item U) → ℕ → List (Item U)
  arrived [] n = []
  arrived (item ∷ items) n = let size = length (item_spelling rules item) in
      if nat_lt n size then [] else item ∷ arrived items (n - size)
