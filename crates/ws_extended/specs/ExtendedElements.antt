-- The elements of a live host's body (SC30-3533, commands and orders): those of the profile, and commands beside it.
use Rattle.std.specs.Prelude.{ℕ, List, [], ◌∷◌, Bool, true, false}
use Rattle.ws_code.specs.Code.{Rules}
use Rattle.ws_stream.specs.Elements.{IsElement, element_rules, is_command, spelling}
use Rattle.ws_stream.specs.declared.command_code.TheConstants as commands
use Rattle.ws_stream.specs.declared.command_code.TheConstants.{ESCAPE}
use Rattle.ws_stream.specs.declared.element.Element.{Element}
use Rattle.ws_stream.specs.declared.element.Element.TheVariants.{Ic, Put}
use Rattle.ws_stream.specs.declared.place.Place.TheVariants.{CommandsOnly}
use Rattle.ws_extended.specs.ExtendedReasons.{extended_reason}
use Rattle.ws_extended.specs.RollParts.{IsRoll}
use Rattle.ws_extended.specs.declared.ask.Ask.{Ask}
use Rattle.ws_extended.specs.declared.ask.Ask.TheVariants.{Query, SaveScreen, ReadScreen, ReadImmediate}
use Rattle.ws_extended.specs.declared.ask.Ask.TheVariants.{ReadImmediateAlternate}
use Rattle.ws_extended.specs.declared.extended_element.ExtendedElement.{ExtendedElement}
use Rattle.ws_extended.specs.declared.extended_element.ExtendedElement.TheVariants.{Profile, Text, RestoreScreen}
use Rattle.ws_extended.specs.declared.extended_element.ExtendedElement.TheVariants.{Roll, WriteError, Asks}
use Rattle.ws_extended.specs.declared.extended_place.ExtendedPlace.{ExtendedPlace}
use Rattle.ws_extended.specs.declared.extended_place.ExtendedPlace.TheVariants.{InProfile, ErrorText, Asked}

-- the query's structured field: five bytes long, of class D9, type 70, no flag (SC30-3533, 5250 Query command)
abbrev pub query_field : List ℕ
query_field = 0x00 ∷ 0x05 ∷ 0xD9 ∷ 0x70 ∷ 0x00 ∷ []

-- the byte after the escape
abbrev pub ask_code : Ask → ℕ
ask_code Query = commands.WRITE_STRUCTURED_FIELD
ask_code SaveScreen = commands.SAVE_SCREEN
ask_code ReadScreen = commands.READ_SCREEN
ask_code ReadImmediate = commands.READ_IMMEDIATE
ask_code ReadImmediateAlternate = commands.READ_MDT_IMMEDIATE_ALTERNATE

-- what stands after the code of a command that asks: the field of a query, else nothing
abbrev pub ask_field : Ask → List ℕ
ask_field Query = query_field
ask_field _ = []

-- the bytes of a live host's element
abbrev pub extended_spelling : ExtendedElement → List ℕ
extended_spelling (Profile e) = spelling e
extended_spelling (Text e) = spelling e
extended_spelling RestoreScreen = ESCAPE ∷ commands.RESTORE_SCREEN ∷ []
extended_spelling (Roll r) = ESCAPE ∷ commands.ROLL ∷ r.control ∷ r.top ∷ r.bottom ∷ []
extended_spelling WriteError = ESCAPE ∷ commands.WRITE_ERROR_CODE ∷ []
extended_spelling (Asks ask) = ESCAPE ∷ ask_code ask ∷ ask_field ask

-- what the type of an element allows
abbrev pub IsExtended : ExtendedElement → Type 0
IsExtended (Profile e) = IsElement e
IsExtended (Text e) = IsElement e
IsExtended RestoreScreen = Unit {0}
IsExtended (Roll r) = IsRoll r
IsExtended WriteError = Unit {0}
IsExtended (Asks ask) = Unit {0}

-- an Insert Cursor or a byte for a cell
abbrev pub is_text : Element → Bool
is_text (Ic place) = true
is_text (Put byte) = true
is_text _ = false

-- Commands stand everywhere but after what asks, where that alone stands. Text stands after Write Error Code and
-- after text, and there no order does.
abbrev pub extended_follows : ExtendedPlace → ExtendedElement → Bool
extended_follows (InProfile place) (Profile e) = element_rules.may_follow place e
extended_follows (InProfile place) (Text e) = false
extended_follows (InProfile place) RestoreScreen = true
extended_follows (InProfile place) (Roll r) = true
extended_follows (InProfile place) WriteError = true
extended_follows (InProfile place) (Asks ask) = true
extended_follows ErrorText (Profile e) = is_command e
extended_follows ErrorText (Text e) = is_text e
extended_follows ErrorText RestoreScreen = true
extended_follows ErrorText (Roll r) = true
extended_follows ErrorText WriteError = true
extended_follows ErrorText (Asks ask) = true
extended_follows (Asked before) (Profile e) = false
extended_follows (Asked before) (Text e) = false
extended_follows (Asked before) RestoreScreen = false
extended_follows (Asked before) (Roll r) = false
extended_follows (Asked before) WriteError = false
extended_follows (Asked before) (Asks ask) = true

-- the place after an element
abbrev pub place_behind : ExtendedElement → ExtendedPlace
place_behind (Profile e) = InProfile (element_rules.after e)
place_behind (Text e) = ErrorText
place_behind RestoreScreen = InProfile CommandsOnly
place_behind (Roll r) = InProfile CommandsOnly
place_behind WriteError = ErrorText
place_behind (Asks ask) = Asked ask

-- the code of a live host's elements; a body may end everywhere
abbrev pub extended_rules : Rules ExtendedPlace ExtendedElement
extended_rules = record {
  first = InProfile CommandsOnly;
  after = place_behind;
  is_unit = IsExtended;
  may_follow = extended_follows;
  may_end = λ _. true;
  spelling = extended_spelling;
  reason = extended_reason;
}
