-- The open write that an element finds, by the place at which it stands.
use Rattle.std.proofs.Common.{◌≡◌, Bool, true, false, inl, inr, refl, ◌∙◌, is_some}
use Rattle.std.proofs.lemmas.Bool.{both_ways, false≢true, or_cases}
use Rattle.ws_stream.specs.Elements.{allows_orders, is_command}
use Rattle.ws_screen.specs.ScreenParts.{ScreenParts}
use Rattle.ws_screen.proofs.Applies.{allows_after}
use Rattle.ws_extended.specs.ExtendedElements.{extended_follows, place_behind}
use Rattle.ws_extended.specs.ExtendedViews.{NeedsOpenWrite, leaves_write_open}
use Rattle.ws_extended.specs.declared.extended_element.ExtendedElement.{ExtendedElement}
use Rattle.ws_extended.specs.declared.extended_element.ExtendedElement.TheVariants.{Profile, Text, RestoreScreen}
use Rattle.ws_extended.specs.declared.extended_element.ExtendedElement.TheVariants.{Roll, WriteError, Asks}
use Rattle.ws_extended.specs.declared.extended_place.ExtendedPlace.{ExtendedPlace}
use Rattle.ws_extended.specs.declared.extended_place.ExtendedPlace.TheVariants.{InProfile, ErrorText}
use Rattle.ws_extended.specs.declared.extended_place.ExtendedPlace.TheVariants.{Asked as BehindAsk}

-- a write is open where an element stands at the place
abbrev pub is_open_at : ExtendedPlace → Bool
is_open_at (InProfile place) = allows_orders place
is_open_at ErrorText = true
is_open_at (BehindAsk ask) = false

pub open_behind : (u : ExtendedElement) → is_open_at (place_behind u) ≡ leaves_write_open u
open_behind (Profile e) = allows_after e
open_behind (Text e) = refl
open_behind RestoreScreen = refl
open_behind (Roll r) = refl
open_behind WriteError = refl
open_behind (Asks ask) = refl

-- an element finds the open write that it needs
pub finds_write : (u : ExtendedElement) (place : ExtendedPlace) (s : ScreenParts) → extended_follows place u ≡ true
    → is_some s.writing ≡ is_open_at place → NeedsOpenWrite u s
finds_write (Profile e) (InProfile place) s may open_ = λ order.
    elim (or_cases (is_command e) (allows_orders place) may) [
      | inl it ↦ absurd (both_ways (is_command e) order it)
      | inr can ↦ open_ ∙ can
    ]
finds_write (Profile e) ErrorText s may open_ = λ order. absurd (both_ways (is_command e) order may)
finds_write (Profile e) (BehindAsk ask) s may open_ = absurd (false≢true may)
finds_write (Text e) (InProfile place) s may open_ = absurd (false≢true may)
finds_write (Text e) ErrorText s may open_ = (open_, may)
finds_write (Text e) (BehindAsk ask) s may open_ = absurd (false≢true may)
finds_write RestoreScreen place s may open_ = tt
finds_write (Roll r) place s may open_ = tt
finds_write WriteError place s may open_ = tt
finds_write (Asks ask) place s may open_ = tt
