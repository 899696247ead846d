-- A station on any display: what it makes of a piece of bytes, and of all that is done at it (RFC 1205, 4777)

use Rattle.std.specs.Prelude.{◌≡◌, ◌+◌, ◌^◌, ◌<◌, length}
use Rattle.ws_end.specs.declared.station.key_fault.KeyFault.{KeyFault}
use Rattle.ws_end.specs.declared.station.key_fault.KeyFault.TheVariants.{Failed as KeyFailed}
use Rattle.ws_end.specs.driver.Driven.{TakesNoMore}
use Rattle.ws_end.specs.station.Displays.{OnDisplay, RefusesKey}
use Rattle.ws_end.specs.station.StationTransitions.{key_on}
use Rattle.ws_end.specs.station.Stations.{AtStationOn, StationOf}

module _ (on : OnDisplay) where
  -- the station refuses the key, for this reason, by all that came and was pressed before, or since it is shut
  pub record IsKeyRefusalOn (station : StationOf on) (key : on.Pressed) (fault : KeyFault) : Type 0 where
    pub led : AtStationOn on station (λ bytes items state. length bytes + 1 < 2 ^ 64
        → key_on on.does state key ≡ RefusesKey fault)
    pub shut : TakesNoMore station → fault ≡ KeyFailed

  -- the station has no reason to refuse the key, and isn't shut
  pub record IsKeyTakenOn (station : StationOf on) (key : on.Pressed) : Type 0 where
    pub led : AtStationOn on station (λ bytes items state. length bytes + 1 < 2 ^ 64
        → (fault : KeyFault) → key_on on.does state key ≡ RefusesKey fault → ⊥)
    pub works : TakesNoMore station → ⊥
