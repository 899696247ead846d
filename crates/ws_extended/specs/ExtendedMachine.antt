-- What the machine of `ExtendedCommands` keeps of an unfinished element.
use Rattle.std.specs.Prelude.{ℕ, List, [], ◌∷◌, Bool, true, false, ◌==◌, nat_lt, take, if◌then◌else◌}
use Rattle.ws_stream.specs.declared.command_code.TheConstants.{ESCAPE, ROLL, WRITE_STRUCTURED_FIELD}
use Rattle.ws_stream.specs.declared.element.Element.{Element}
use Rattle.ws_stream.specs.declared.place.Place.{Place}
use Rattle.ws_stream.specs.declared.place.Place.TheVariants.{Anything}
use Rattle.ws_extended.specs.ExtendedElements.{is_text, query_field}
use Rattle.ws_extended.specs.ExtendedReasons.{is_inner}
use Rattle.ws_extended.specs.declared.extended_commands.phase.Phase.{Phase}
use Rattle.ws_extended.specs.declared.extended_commands.phase.Phase.TheVariants.{Begin, Escaped, Inside, InQuery}
use Rattle.ws_extended.specs.declared.extended_commands.phase.Phase.TheVariants.{Rolls, RollsBy, RollsFrom}
use Rattle.ws_extended.specs.declared.extended_element.ExtendedElement.{ExtendedElement}
use Rattle.ws_extended.specs.declared.extended_element.ExtendedElement.TheVariants.{Profile, Text}
use Rattle.ws_extended.specs.declared.extended_place.ExtendedPlace.{ExtendedPlace}
use Rattle.ws_extended.specs.declared.extended_place.ExtendedPlace.TheVariants.{InProfile, ErrorText, Asked}

-- the place at which the profile's machine reads an element
abbrev pub inner_place : ExtendedPlace → Place
inner_place (InProfile place) = place
inner_place ErrorText = Anything
inner_place (Asked ask) = Anything

-- an element of the profile that was read at a place
abbrev pub lift : ExtendedPlace → Element → ExtendedElement
lift (InProfile place) e = Profile e
lift ErrorText e = if is_text e then Text e else Profile e
lift (Asked ask) e = Profile e

-- the bytes of the element so far, by what is waited for and by those that the profile's machine has
abbrev pub element_begun_in : Phase → List ℕ → List ℕ
element_begun_in Begin bytes = []
element_begun_in Escaped bytes = ESCAPE ∷ []
element_begun_in Inside bytes = bytes
element_begun_in (InQuery count) bytes = ESCAPE ∷ WRITE_STRUCTURED_FIELD ∷ take count query_field
element_begun_in Rolls bytes = ESCAPE ∷ ROLL ∷ []
element_begun_in (RollsBy control) bytes = ESCAPE ∷ ROLL ∷ control ∷ []
element_begun_in (RollsFrom control top) bytes = ESCAPE ∷ ROLL ∷ control ∷ top ∷ []

-- the profile's machine has these bytes, by what is waited for
abbrev pub fits_phase : ExtendedPlace → Phase → List ℕ → Bool
fits_phase place Begin [] = true
fits_phase place Begin (b ∷ bytes) = false
fits_phase place Escaped [] = false
fits_phase place Escaped (b ∷ []) = b == ESCAPE
fits_phase place Escaped (b ∷ c ∷ bytes) = false
fits_phase place Inside bytes = is_inner place bytes
fits_phase place (InQuery count) bytes = nat_lt count 5
fits_phase place Rolls bytes = true
fits_phase place (RollsBy control) bytes = true
fits_phase place (RollsFrom control top) bytes = true
