-- The waits of a live session, which begin at what tells their time.

use Rattle.std.specs.Prelude.{◌≡◌, ℕ, Bool, Option, None, Some}
use Rattle.ws_code.specs.Device.{Devices, one_more}
use Rattle.ws_end.specs.attached.Attachments.{AttachedParts}
use Rattle.ws_live.specs.live.LiveText.{LinesDo}
use Rattle.ws_live.specs.declared.live.LiveSession.{LiveSession}
use Rattle.ws_live.specs.declared.live.watch.WaitSpan.{WaitSpan}

-- what a watch may tell of a source at which a read has failed: whether that was for want of time, and then whether
-- nothing had come for the time of a quiet wait
pub record WatchTells (S : Type 0) : Type 1 where
  pub is_late : S → Bool → Type 0
  pub is_quiet : S → Bool → Type 0

-- it may tell this, and then this
abbrev pub watch_tells : {S : Type 0} → (S → Bool → Type 0) → (S → Bool → Type 0) → WatchTells S
watch_tells is_late is_quiet = record { is_late = is_late; is_quiet = is_quiet }

-- a source and a sink, and what a watch may tell of the source
pub record WatchedDevices (S K : Type 0) : Type 1 where
  pub devices : Devices S K
  pub tells : WatchTells S

-- these devices, at a watch that may tell this
abbrev pub watched_devices : {S K : Type 0} → Devices S K → WatchTells S → WatchedDevices S K
watched_devices devices tells = record { devices = devices; tells = tells }

-- how a watch keeps its waits: what it does to it that they are over; what the beginning of one of a span does, where
-- the source is this; and how many have begun
pub record WatchTimes (W S : Type 0) : Type 1 where
  pub ends : W → W → Type 0
  pub begins : W → S → WaitSpan → W → Type 0
  pub begun : W → ℕ

-- these are done, and so many have begun
abbrev pub watch_times : {W S : Type 0} → (W → W → Type 0) → (W → S → WaitSpan → W → Type 0) → (W → ℕ)
    → WatchTimes W S
watch_times ends begins begun = record { ends = ends; begins = begins; begun = begun }

module _ {W S : Type 0} (times : WatchTimes W S) where
  -- one wait more has begun, where the source was this
  abbrev pub HasBegun : S → WaitSpan → W → W → Type 0
  HasBegun source span from to = times.begins from source span to × (times.begun to ≡ one_more (times.begun from))

  -- a line that waits begins one wait, where it finds the source, before it reads; no other line begins one
  abbrev pub HasBegunIf : Option WaitSpan → S → W → W → Type 0
  HasBegunIf None source from to = to ≡ from
  HasBegunIf (Some span) source from to = HasBegun source span from to

-- a session that begins: no record is ahead
abbrev pub begun_session : {E S K W : Type 0} → AttachedParts E S K → W → LiveSession E S K W
begun_session attached watch = record { attached = attached; ahead = 0; watch = watch }

-- what lines do at an end of which so many records are ahead, in a session of it: the waits before are over; then a line
-- that waits so long begins one, where it finds the source, and no other does
abbrev pub InTime : {L E S K W : Type 0} → LinesDo L (AttachedParts E S K × ℕ) → (L → Option WaitSpan) → WatchTimes W S
    → LinesDo L (LiveSession E S K W)
InTime {W = W} runs waits times line from came to = runs line (from.attached, from.ahead) came (to.attached, to.ahead)
    × ((mid : W) × times.ends from.watch mid × HasBegunIf times (waits line) from.attached.source mid to.watch)
