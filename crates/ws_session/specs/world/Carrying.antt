-- A piece of a stream over a connection: its bytes go into the connection's one end, and as many are read from the
-- other. A read gives some byte, or else it is the last; so there are no more reads than the piece has bytes.

use Rattle.std.specs.Prelude.{◌≡◌, ℕ, ◌<◌, ◌≤◌, List, length, take}
use Rattle.ws_code.specs.declared.fault.Fault.{Fault}
use Rattle.ws_code.specs.declared.fault.Fault.TheVariants.{Truncated, Read, Write}
use Rattle.ws_code.specs.Device.{Devices, WentOut, FailedWithin, Gave, GaveAll, ReadFailed}
use Rattle.ws_end.specs.attached.StationRun.{Passage, passing}
use Rattle.ws_session.specs.declared.world.line.Line.{Line}

-- a line with such ends was this, and is that
abbrev pub passage : {S R : Type 0} → Devices R S → Line S R → Line S R → Passage S R
passage devices from to = passing devices from.sink to.sink from.source to.source

module _ {S R : Type 0} (line : Passage S R) where
  -- these bytes went out into the line
  abbrev pub HasPassed : List ℕ → Type 0
  HasPassed bytes = WentOut line.devices.writer line.sink line.sink' bytes

  -- a piece was carried: all its bytes went out, and these are as many that the source gave next
  pub record IsCarried (bytes given : List ℕ) : Type 0 where
    pub wrote : HasPassed bytes
    pub as_many : length given ≡ length bytes
    pub reads : ℕ
    pub gave : Gave line.devices.reader line.source line.source' reads given
    pub few : reads ≤ length given

  -- a write failed, and nothing was read
  pub record IsUnwritten (bytes : List ℕ) : Type 0 where
    pub failed : FailedWithin line.devices.writer line.sink line.sink' bytes
    pub unread : line.source' ≡ line.source

  -- all the bytes went out, and the source gave its end after so many bytes, which are too few and stand at the
  -- slice's prefix
  pub record IsCutShort (bytes slice : List ℕ) (at : ℕ) : Type 0 where
    pub wrote : HasPassed bytes
    pub given : List ℕ
    pub counted : at ≡ length given
    pub fewer : at < length bytes
    pub at_prefix : take at slice ≡ given
    pub gave : GaveAll line.devices.reader line.source line.source' given
    pub few : gave.count ≤ at

  -- all the bytes went out, and a read failed after too few bytes, which stand at the slice's prefix
  pub record IsUnread (bytes slice : List ℕ) : Type 0 where
    pub wrote : HasPassed bytes
    pub given : List ℕ
    pub at : ℕ
    pub counted : at ≡ length given
    pub fewer : at < length bytes
    pub at_prefix : take at slice ≡ given
    pub failed : ReadFailed line.devices.reader line.source line.source' given
    pub few : failed.count ≤ at

  -- why a piece isn't carried: a write failed, a read failed, or the source ended early; the slice is what was read
  -- into
  abbrev pub IsCarryFault : List ℕ → List ℕ → Fault → Type 0
  IsCarryFault bytes slice Write = IsUnwritten bytes
  IsCarryFault bytes slice Read = IsUnread bytes slice
  IsCarryFault bytes slice (Truncated at) = IsCutShort bytes slice at
  IsCarryFault bytes slice fault = ⊥
