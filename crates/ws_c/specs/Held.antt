-- What a handle holds, and what a call does with it

use Rattle.std.specs.Prelude.{◌≡◌, Box, Option, Some, None}
use Rattle.std.specs.declared.alloc.Global.{Global}
use Rattle.ws_record.specs.Live.{Watching}
use Rattle.ws_screen.specs.ScreenParts.{ScreenParts}
use Rattle.ws_end.specs.station.StationEndState.{on_profile}
use Rattle.ws_stream.specs.declared.place.Place.{Place}
use Rattle.ws_extended.specs.declared.extended_place.ExtendedPlace.{ExtendedPlace}
use Rattle.ws_extended_station.specs.ExtendedDisplays.{on_extended}
use Rattle.ws_code.specs.declared.code_page.CodePage.{CodePage}
use Rattle.ws_c.specs.HeldEnds.{HeldOn}
use Rattle.ws_c.specs.LiveParts.{HeldLive, page_told, live_screen}
use Rattle.ws_c.specs.declared.host.HeldHost.{HeldHost}
use Rattle.ws_c.specs.declared.machine.Machine.{Machine}
use Rattle.ws_c.specs.declared.machine.Machine.TheVariants.{Decoder, ExtendedDecoder, ExtendedStation, Host}
use Rattle.ws_c.specs.declared.machine.Machine.TheVariants.{LiveStation, Station}
use Rattle.ws_c.specs.declared.status.Status.{Status}
use Rattle.ws_c.specs.declared.status.Status.TheVariants.{Done, NoMemory, NothingHeld}

-- what stands in a box of its own
abbrev pub Boxed : Type 0 → Type 0
Boxed T = Box T Global

-- this is held from now on, or there is no memory for it
abbrev pub IsHeld : Machine → Option Machine → Status → Type 0
IsHeld machine now Done = now ≡ Some machine
IsHeld machine now NoMemory = now ≡ None
IsHeld machine now status = ⊥

-- a call does this with what a handle held, which it holds as before
abbrev pub HoldsStill : {T : Type 0} → (Boxed T → Machine) → Boxed T → Option Machine → (T → T → Type 0) → Type 0
HoldsStill in_handle old now does = (new : Boxed _) × (now ≡ Some (in_handle new)) × does old.value new.value

-- the call says that the handle holds nothing that it is for, and this is said of the outputs
abbrev pub HoldsNone : Status → Type 0 → Type 0
HoldsNone status untold = (status ≡ NothingHeld) × untold

-- What a call does with the station that a handle holds: this with one of the profile, that with one as live hosts use
-- it, and the third with one that no refused record ends. Where it holds none the handle stays as it was, and this is
-- said of what crosses.
abbrev pub OnStations : Option Machine → Option Machine → (HeldOn on_profile → HeldOn on_profile → Type 0)
    → (HeldOn on_extended → HeldOn on_extended → Type 0) → (HeldLive → HeldLive → Type 0) → Type 0 → Type 0
OnStations (Some (Station old)) now does also lives otherwise = HoldsStill Station old now does
OnStations (Some (ExtendedStation old)) now does also lives otherwise = HoldsStill ExtendedStation old now also
OnStations (Some (LiveStation old)) now does also lives otherwise = HoldsStill LiveStation old now lives
OnStations held now does also lives otherwise = (now ≡ held) × otherwise

-- What a call tells of the screen of a station of any kind, which stays as it was, on a code page if the station has
-- one.
abbrev pub OnScreen : Option Machine → Option Machine → (Option CodePage → ScreenParts → Type 0) → Type 0 → Type 0
OnScreen held now tells otherwise = OnStations held now
    (λ old new. (new ≡ old) × tells None old.end.reacts.screen.screen)
    (λ old new. (new ≡ old) × tells None old.end.reacts.screen.display.screen)
    (λ old new. (new ≡ old) × tells (page_told old.end) (live_screen old.end)) otherwise

-- What a call does with the station that no refused record ends, where a handle holds such. Else it stays as it was, and
-- this is said of what crosses.
abbrev pub OnLive : Option Machine → Option Machine → (HeldLive → HeldLive → Type 0) → Type 0 → Type 0
OnLive (Some (LiveStation old)) now does otherwise = HoldsStill LiveStation old now does
OnLive held now does otherwise = (now ≡ held) × otherwise

-- What a call does with the host's end that a handle holds. Where it holds none the handle stays as it was, and this is
-- said of what crosses.
abbrev pub OnHost : Option Machine → Option Machine → (HeldHost → HeldHost → Type 0) → Type 0 → Type 0
OnHost (Some (Host old)) now does otherwise = HoldsStill Host old now does
OnHost held now does otherwise = (now ≡ held) × otherwise

-- What a call does with the decoder that a handle holds: this with one of the profile's streams, that with one of live
-- hosts' streams. Where it holds none the handle stays as it was, and this is said of what crosses.
abbrev pub OnDecoders : Option Machine → Option Machine → (Watching Place → Watching Place → Type 0)
    → (Watching ExtendedPlace → Watching ExtendedPlace → Type 0) → Type 0 → Type 0
OnDecoders (Some (Decoder old)) now does also otherwise = HoldsStill Decoder old now does
OnDecoders (Some (ExtendedDecoder old)) now does also otherwise = HoldsStill ExtendedDecoder old now also
OnDecoders held now does also otherwise = (now ≡ held) × otherwise

-- a handle that held a station of any kind holds nothing, and another stays as it was
abbrev pub IsStationFreed : Option Machine → Option Machine → Type 0
IsStationFreed (Some (Station old)) now = now ≡ None
IsStationFreed (Some (ExtendedStation old)) now = now ≡ None
IsStationFreed (Some (LiveStation old)) now = now ≡ None
IsStationFreed held now = now ≡ held

-- a handle that held a host's end holds nothing, and another stays as it was
abbrev pub IsHostFreed : Option Machine → Option Machine → Type 0
IsHostFreed (Some (Host old)) now = now ≡ None
IsHostFreed held now = now ≡ held

-- a handle that held a decoder of either kind holds nothing, and another stays as it was
abbrev pub IsDecoderFreed : Option Machine → Option Machine → Type 0
IsDecoderFreed (Some (Decoder old)) now = now ≡ None
IsDecoderFreed (Some (ExtendedDecoder old)) now = now ≡ None
IsDecoderFreed held now = now ≡ held
