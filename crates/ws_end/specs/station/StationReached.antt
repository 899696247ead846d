-- The station by the bytes that lead to it, and what a byte or a key makes of it (RFC 1205, 4777).

use Rattle.std.specs.Prelude.{ℕ, List}
use Rattle.ws_record.specs.declared.record.Item.{Item}
use Rattle.ws_stream.specs.declared.element.Element.{Element}
use Rattle.ws_stream.specs.declared.place.Place.{Place}
use Rattle.ws_end.specs.station.StationEndState.{ProfileParts, StationEndState, on_profile}
use Rattle.ws_end.specs.station.Stations.{ReachedOn, AtStationOn, FreshOn, PartsOn}
pub use Rattle.ws_end.specs.station.StationCounts.{is_record, records_in, keeps_body}

-- what the station of the profile keeps
abbrev pub StationParts : Type 0
StationParts = PartsOn ProfileParts Place

-- The bytes lead to the station: they hold these items, none of them is refused, and what the station did at them and
-- at the keys between them left it in this state.
abbrev pub StationReached : StationParts → List ℕ → List (Item Element) → StationEndState → Type 0
StationReached = ReachedOn on_profile

-- this holds of whatever led to the station: the bytes, their items, and the state in which they left it
abbrev pub AtStation : StationParts → (List ℕ → List (Item Element) → StationEndState → Type 0) → Type 0
AtStation = AtStationOn on_profile

-- the station has taken no byte and no key
abbrev pub IsFresh : StationParts → Type 0
IsFresh = FreshOn on_profile
