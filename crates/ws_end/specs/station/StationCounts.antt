-- Records among items, and the bytes of a body that are kept

use Rattle.std.specs.Prelude.{◌≡◌, ℕ, ◌+◌, ◌≤◌, Bool, true, false, List, [], ◌∷◌, length}
use Rattle.ws_record.specs.declared.record.Item.{Item}
use Rattle.ws_record.specs.declared.record.Item.TheVariants.{Record as RecordItem, Telnet as TelnetItem}
use Rattle.ws_end.specs.declared.station.body.TheConstants.{MAX_BODY_BYTES}

-- whether the item is a record
abbrev pub is_record : {U : Type 0} → Item U → Bool
is_record (RecordItem r) = true
is_record (TelnetItem token) = false

-- how many of the items are records
abbrev pub records_in : {U : Type 0} → List (Item U) → ℕ
records_in [] = 0
records_in (RecordItem r ∷ items) = 1 + records_in items
records_in (TelnetItem token ∷ items) = records_in items

-- the bytes of a body are kept, where they are no more than a record has room for
abbrev pub keeps_body : List ℕ → List ℕ → Type 0
keeps_body kept units = length units ≤ MAX_BODY_BYTES → kept ≡ units
