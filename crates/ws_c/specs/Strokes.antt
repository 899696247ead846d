-- Strokes at a station: the keys of one, one after another, up to the first that is refused

use Rattle.std.specs.Prelude.{◌≡◌, ◌≢◌, List, [], ◌∷◌, Option, Result, Ok, Err}
use Rattle.ws_extended_station.specs.declared.extended_key.ExtendedKey.TheVariants.{Profile}
use Rattle.ws_keys.specs.Strokes.{erase_eof_runs, keys_of, new_line_cell, runs_to}
use Rattle.ws_keys.specs.declared.answer.Answer.{Answer}
use Rattle.ws_keys.specs.declared.key.Key.{Key}
use Rattle.ws_keys.specs.declared.key_run.KeyRun.{KeyRun}
use Rattle.ws_screen.specs.ScreenParts.{ScreenParts}
use Rattle.ws_end.specs.station.Displays.{OnDisplay}
use Rattle.ws_end.specs.station.StationEndState.{on_profile}
use Rattle.ws_end.specs.declared.station.key_fault.KeyFault.{KeyFault}
use Rattle.ws_c.specs.declared.status.Status.{Status}
use Rattle.ws_c.specs.declared.status.Status.TheVariants.{Done, NoRoom}
use Rattle.ws_c.specs.declared.stroke.Stroke.{Stroke}
use Rattle.ws_c.specs.declared.stroke.Stroke.TheVariants.{MoveTo, NewLine, EraseEof}
use Rattle.ws_c.specs.declared.told.Told.{Told}
use Rattle.ws_c.specs.Calls.{IsKeyFaultTold, Returned, StationKeyedOn, told_length}
use Rattle.ws_c.specs.HeldEnds.{HeldOn, waiting}
use Rattle.ws_extended_station.specs.ExtendedDisplays.{on_extended}
use Rattle.ws_end.specs.station.Stations.{StationOf, station_driving}

-- the keys of a stroke at a screen, in runs
abbrev pub stroke_key_runs : Stroke → ScreenParts → List KeyRun
stroke_key_runs (MoveTo cell) s = runs_to s.cursor cell
stroke_key_runs NewLine s = runs_to s.cursor (new_line_cell s)
stroke_key_runs EraseEof s = erase_eof_runs s

-- the keys of a stroke at a screen, one after another
abbrev pub keys_of_stroke : Stroke → ScreenParts → List Key
keys_of_stroke stroke screen = keys_of (stroke_key_runs stroke screen)

-- what the keys of a stroke cross as
abbrev pub IsStrokeTold : Result (Unit {0}) KeyFault → Status → Told → Type 0
IsStrokeTold (Ok done) status told = (status ≡ Done) × (told ≡ told_length 0)
IsStrokeTold (Err fault) status told = IsKeyFaultTold fault status told

-- where a key is taken this is said of the keys after it; where it is refused they aren't pressed
abbrev pub GoesOnBehindKey : {S : Type 0} → Result (Option Answer) KeyFault → Type 0 → S → S
    → Result (Unit {0}) KeyFault → Type 0
GoesOnBehindKey (Ok answer) behind next new result = behind
GoesOnBehindKey (Err fault) behind next new result = (result ≡ Err fault) × (new ≡ next)

-- a station of any kind, by what one key of the profile does at it
module _ {S : Type 0} (takes : S → S → Key → Result (Option Answer) KeyFault → Type 0) where
  -- keys at a station, one after another, up to the first that is refused
  abbrev pub AreKeyed : List Key → S → S → Result (Unit {0}) KeyFault → Type 0
  AreKeyed [] old new result = (result ≡ Ok tt) × (new ≡ old)
  AreKeyed (key ∷ keys) old new result = (next : S) × (pressed : Result (Option Answer) KeyFault)
      × takes old next key pressed × GoesOnBehindKey pressed (AreKeyed keys next new result) next new result

  -- the keys of a stroke at a station: they are pressed one after another, up to the first that is refused
  abbrev pub AreStruck : List Key → Returned Told → S → S → Type 0
  AreStruck keys gave old new = (result : Result (Unit {0}) KeyFault) × AreKeyed keys old new result
      × IsStrokeTold result gave.status gave.told

module _ (kind : OnDisplay) (among : Key → kind.Pressed) where
  -- a key of the profile at a station of the kind, which is this of its own
  abbrev pub keyed_among : StationOf kind → StationOf kind → Key → Result (Option Answer) KeyFault → Type 0
  keyed_among old new key result = StationKeyedOn kind old new (among key) result

  -- what a stroke at a station of the kind crosses as; where something waits no key is pressed
  pub record IsStroke (stroke : Stroke) (gave : Returned Told) (old new : HeldOn kind) : Type 0 where
    pub waits : waiting (station_driving kind) old ≢ []
        → (gave.status ≡ NoRoom) × (new ≡ old) × (gave.told ≡ told_length 0)
    pub pressed : waiting (station_driving kind) old ≡ []
        → AreStruck keyed_among (keys_of_stroke stroke (kind.does.shown old.end.reacts.screen)) gave old.end new.end
        × (waiting (station_driving kind) new ≡ [])

-- what a stroke at a station of the profile crosses as
abbrev pub IsProfileStroke : Stroke → Returned Told → HeldOn on_profile → HeldOn on_profile → Type 0
IsProfileStroke = IsStroke on_profile (λ key. key)

-- what a stroke at a station as live hosts use it crosses as
abbrev pub IsExtendedStroke : Stroke → Returned Told → HeldOn on_extended → HeldOn on_extended → Type 0
IsExtendedStroke = IsStroke on_extended Profile
