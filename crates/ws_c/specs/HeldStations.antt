-- Stations of either kind, as C sees them

use Rattle.std.specs.Prelude.{◌≡◌, ◌≢◌, ℕ, List, [], Option, Some, None, Result, false}
use Rattle.ws_nego.specs.Station.{station_allows_records}
use Rattle.ws_nego.specs.Terminal.{terminal_named}
use Rattle.ws_nego.specs.declared.terminal.TerminalType.{TerminalType}
use Rattle.ws_keys.specs.declared.answer.Answer.{Answer}
use Rattle.ws_keys.specs.declared.key.Key.{Key}
use Rattle.ws_extended.specs.declared.extended_place.ExtendedPlace.{ExtendedPlace}
use Rattle.ws_extended_station.specs.ExtendedDisplays.{DisplayParts, on_extended, standing_row}
use Rattle.ws_extended_station.specs.declared.extended_key.ExtendedKey.{ExtendedKey}
use Rattle.ws_extended_station.specs.declared.extended_key.ExtendedKey.TheVariants.{Profile, Reset}
use Rattle.ws_end.specs.Ends.{refused_byte}
use Rattle.ws_end.specs.station.Displays.{OnDisplay}
use Rattle.ws_end.specs.station.StationTransitions.{new_state_on}
use Rattle.ws_end.specs.station.StationEndState.{on_profile}
use Rattle.ws_end.specs.station.Stations.{ReachedOn, PartsOn, station_driving}
use Rattle.ws_end.specs.declared.station.key_fault.KeyFault.{KeyFault}
use Rattle.ws_c.specs.Calls.{Crossed, IsKeyTold, StationKeyedOn, TellsOnly, beside_screen, row_number, state_of_screen}
use Rattle.ws_c.specs.Calls.{told_length}
use Rattle.ws_c.specs.Held.{Boxed, OnStations}
use Rattle.ws_c.specs.HeldEnds.{HeldOn, waiting}
use Rattle.ws_c.specs.LiveStations.{IsLivePress}
use Rattle.ws_c.specs.Keys.{IsKeyFrom}
use Rattle.ws_c.specs.Pushes.{IsPush}
use Rattle.ws_c.specs.declared.key_kind.TheConstants.{RESET_KIND}
use Rattle.ws_c.specs.declared.machine.Machine.{Machine}
use Rattle.ws_c.specs.declared.machine.Machine.TheVariants.{ExtendedStation, Station}
use Rattle.ws_c.specs.declared.state_told.StateTold.{StateTold}
use Rattle.ws_c.specs.declared.status.Status.{Status}
use Rattle.ws_c.specs.declared.status.Status.TheVariants.{Done, NoMemory, NothingHeld, InUse, NoRoom, BadArgument}
use Rattle.ws_c.specs.declared.told.PushedTold.{PushedTold}
use Rattle.ws_c.specs.declared.told.Told.{Told}

module _ (kind : OnDisplay) where
  -- what of a station's last answer hasn't gone out yet
  abbrev pub waiting_on : HeldOn kind → List ℕ
  waiting_on = waiting (station_driving kind)

  -- what a new station of the kind crosses as: it is made for the terminal of the name, or the handle stays as it is
  abbrev pub IsNew : (Boxed (HeldOn kind) → Machine) → List ℕ → Option Machine → Option Machine → Status → Type 0
  IsNew in_handle name (Some held) now status = (status ≡ InUse) × (now ≡ Some held)
  IsNew in_handle name None now Done = (terminal : TerminalType) × (held : Boxed (HeldOn kind))
      × (terminal_named name ≡ Some terminal) × (now ≡ Some (in_handle held))
      × ReachedOn kind held.value.end [] [] (new_state_on kind.does terminal) × (waiting_on held.value ≡ [])
  IsNew in_handle name None now BadArgument = (terminal_named name ≡ None) × (now ≡ None)
  IsNew in_handle name None now NoMemory = (terminal : TerminalType) × (terminal_named name ≡ Some terminal)
      × (now ≡ None)
  IsNew in_handle name None now status = ⊥

  -- what a push of bytes into a station of the kind crosses as
  abbrev pub IsStationPush : List ℕ → Crossed PushedTold → HeldOn kind → HeldOn kind → Type 0
  IsStationPush = IsPush (station_driving kind) false None

  -- What a key crosses as at a station of the kind: where something waits it isn't pressed, since its record could get
  -- between the bytes of another.
  pub record IsPress (key : kind.Pressed) (call : Crossed Told) (old new : HeldOn kind) : Type 0 where
    pub waits : waiting_on old ≢ [] → (new ≡ old) × TellsOnly call NoRoom (told_length 0)
    pub pressed : waiting_on old ≡ [] → (result : Result (Option Answer) KeyFault)
        × StationKeyedOn kind old.end new.end key result × IsKeyTold result call × (waiting_on new ≡ [])

-- what a new station of the profile crosses as
abbrev pub IsStationNew : List ℕ → Option Machine → Option Machine → Status → Type 0
IsStationNew = IsNew on_profile Station

-- what a new station as live hosts use it crosses as
abbrev pub IsExtendedNew : List ℕ → Option Machine → Option Machine → Status → Type 0
IsExtendedNew = IsNew on_extended ExtendedStation

-- what a push of bytes into a station of the profile crosses as: its replies are short, so that none waits
pub record IsBriefPush (bytes : List ℕ) (call : Crossed PushedTold) (old new : HeldOn on_profile) : Type 0 where
  pub pushed : IsStationPush on_profile bytes call old new
  pub brief : waiting_on on_profile old ≡ [] → waiting_on on_profile new ≡ []

-- a key of the profile, where there is one, as a key of a station as live hosts use it
abbrev pub among_all : Option Key → Option ExtendedKey
among_all None = None
among_all (Some key) = Some (Profile key)

-- the key of a kind's number and a value, where there is one: Reset has a number after those of the profile
pub record IsAnyKeyFrom (kind value : ℕ) (key : Option ExtendedKey) : Type 0 where
  pub reset : kind ≡ RESET_KIND → key ≡ Some Reset
  pub other : kind ≢ RESET_KIND → (k : Option Key) × IsKeyFrom kind value k × (key ≡ among_all k)

-- what a key crosses as at a station of the profile, which has no Reset
abbrev pub IsProfilePress : ExtendedKey → Crossed Told → HeldOn on_profile → HeldOn on_profile → Type 0
IsProfilePress Reset call old new = (new ≡ old) × TellsOnly call BadArgument (told_length 0)
IsProfilePress (Profile key) call old new = IsPress on_profile key call old new

-- the status of a key where a handle holds no station
abbrev pub status_without : ExtendedKey → Status
status_without Reset = BadArgument
status_without (Profile key) = NothingHeld

-- what a key crosses as, where there is one, at the station of any kind that a handle holds
abbrev pub IsPressFrom : Option ExtendedKey → Option Machine → Option Machine → Crossed Told → Type 0
IsPressFrom None held now call = (now ≡ held) × TellsOnly call BadArgument (told_length 0)
IsPressFrom (Some key) held now call = OnStations held now (IsProfilePress key call) (IsPress on_extended key call)
    (IsLivePress key call) (TellsOnly call (status_without key) (told_length 0))

-- what is told of a station as live hosts use it but for its cells and fields, with the row on which an error stands
abbrev pub extended_state_told : PartsOn DisplayParts ExtendedPlace → StateTold
extended_state_told s = state_of_screen s.reacts.screen.display.screen (beside_screen s.reacts.records s.reacts.screen.alarms
    (refused_byte s.ended) (station_allows_records s.reacts.options)
    (row_number (standing_row s.reacts.screen.display)))
