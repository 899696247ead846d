-- The names of keys at a display that live hosts use.

use Rattle.std.specs.Prelude.{ℕ, List, Option, Some, None, codes, if◌then◌else◌}
use Rattle.std.specs.Option.{option_map}
use Rattle.std.specs.Str.{bytes_eq}
use Rattle.ws_extended_station.specs.declared.extended_key.ExtendedKey.{ExtendedKey}
use Rattle.ws_extended_station.specs.declared.extended_key.ExtendedKey.TheVariants.{Profile, Reset}
use Rattle.ws_printing.specs.script.KeyNames.{key_named}
use Rattle.ws_printing.specs.script.KeyWords.{KeyWords, entered_by}

-- Reset, beside the keys of the profile by their names
abbrev pub extended_key_named : List ℕ → Option ExtendedKey
extended_key_named name = if bytes_eq name (codes "Reset") then Some Reset else option_map (λ key. Profile key)
    (key_named name)

-- the character that a key enters; Reset enters none
abbrev pub extended_entered : ExtendedKey → Option ℕ
extended_entered (Profile key) = entered_by key
extended_entered Reset = None

-- the keys of a display that live hosts use
abbrev pub extended_words : KeyWords ExtendedKey
extended_words = record { named = extended_key_named; profile = λ key. Profile key; entered = extended_entered }
