-- Keys at their numbers: each is pressed as soon as all before it are and so many records have been applied

use Rattle.std.specs.Prelude.{ℕ, ◌+◌, List, [], ◌∷◌, ◌++◌, if◌then◌else◌, nat_lt}
use Rattle.ws_record.specs.declared.record.Item.{Item}
use Rattle.ws_stream.specs.declared.element.Element.{Element}
use Rattle.ws_keys.specs.declared.key.Key.{Key}
use Rattle.ws_end.specs.Acts.{Happening, Arrives, Does}
use Rattle.ws_end.specs.EndTransitions.{station_transitions}
use Rattle.ws_end.specs.station.StationCounts.{records_in}
use Rattle.ws_end.specs.station.StationEndState.{StationEndState, KeyReaction, RefusesKey, station_key}

-- of keys still to be pressed, those that are pressed once so many records have been applied, and those that aren't
abbrev pub due : ℕ → List (ℕ × Key) → List (Happening Element Key)
due n [] = []
due n (k ∷ ks) = if nat_lt n k.0 then [] else Does k.1 ∷ due n ks

-- the keys that are pressed after more than so many records
abbrev pub later : ℕ → List (ℕ × Key) → List (ℕ × Key)
later n [] = []
later n (k ∷ ks) = if nat_lt n k.0 then k ∷ ks else later n ks

-- what happens as items arrive, where so many records have been applied before them
abbrev pub moments_from : ℕ → List (ℕ × Key) → List (Item Element) → List (Happening Element Key)
moments_from n keys [] = due n keys
moments_from n keys (item ∷ items) =
    due n keys ++ Arrives item ∷ moments_from (n + records_in (item ∷ [])) (later n keys) items

-- keys and items in the order in which they happen: each key after as many records as it names
abbrev pub moments : List (ℕ × Key) → List (Item Element) → List (Happening Element Key)
moments keys items = moments_from 0 keys items

-- one for a key that is refused, and none for another
abbrev pub refusals_at : KeyReaction → ℕ
refusals_at (RefusesKey fault) = 1
refusals_at reaction = 0

-- how many of the keys a station refuses, of what happens
abbrev pub refused_keys : StationEndState → List (Happening Element Key) → ℕ
refused_keys s [] = 0
refused_keys s (Arrives item ∷ hs) = refused_keys (station_transitions.at s (Arrives item)).state hs
refused_keys s (Does key ∷ hs) =
    refusals_at (station_key s key) + refused_keys (station_transitions.at s (Does key)).state hs
