-- An end of a session as C holds it: what it writes goes out in pieces where a buffer has no room for all

use Rattle.std.specs.Prelude.{◌≡◌, ◌≢◌, ℕ, ◌+◌, ◌≤◌, List, [], ◌++◌, length, drop}
use Rattle.ws_end.specs.driver.Driven.{Driven, Driving}
use Rattle.ws_end.specs.station.Displays.{OnDisplay}
use Rattle.ws_end.specs.station.Stations.{StationOf}
use Rattle.ws_c.specs.Calls.{holds_front}
use Rattle.ws_c.specs.declared.held_end.HeldEnd.{HeldEnd}
use Rattle.ws_c.specs.declared.told.PushedTold.{PushedTold}

-- a station of a kind that C holds
abbrev pub HeldOn : OnDisplay → Type 0
HeldOn kind = HeldEnd (StationOf kind) kind.Replied

-- how far a push has come: what it tells so far, and what the buffer holds
pub record Filling : Type 0 where
  pub told : PushedTold
  pub buffer : List ℕ

-- a push has come so far that this is told, and the buffer holds this
abbrev pub filling : PushedTold → List ℕ → Filling
filling told buffer = record { told = told; buffer = buffer }

module _ {E P : Type 0} (left : HeldEnd E P → List ℕ) where
  -- Of what waits a front goes out: it is put after what stands at the buffer's front, and counted. That is all of it,
  -- or as much as there is room for.
  pub record HandsOutOf (old new : HeldEnd E P) (at after : Filling) : Type 0 where
    pub out : List ℕ
    pub whole : left old ≡ out ++ left new
    pub sent : new ≡ record old { sent = old.sent + length out }
    pub counted : after.told ≡ record at.told { replied = at.told.replied + length out }
    pub fits : after.told.replied ≤ length at.buffer
    pub filled : left new ≢ [] → after.told.replied ≡ length at.buffer
    pub put : (front before : List ℕ) → length front ≡ at.told.replied → at.buffer ≡ holds_front front before
        → after.buffer ≡ holds_front (front ++ out) before

module _ {R K Place U Deed Event Reply : Type 0} (d : Driving R K Place U Deed Event Reply) where
  -- what of an end's last reply hasn't gone out yet
  abbrev pub waiting : HeldEnd (Driven R K Place) Reply → List ℕ
  waiting held = drop held.sent (d.does.written held.end.reacts held.reply)

  -- of what waits a front goes out
  abbrev pub HandsOut : HeldEnd (Driven R K Place) Reply → HeldEnd (Driven R K Place) Reply → Filling → Filling → Type 0
  HandsOut = HandsOutOf waiting
