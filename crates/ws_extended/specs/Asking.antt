-- What a record asks at once. It is told of the screen that the record leaves, once: a record that asks again is
-- refused by the reason of its second command that asks (own choice).
use Rattle.std.specs.Prelude.{◌≡◌, List, [], ◌∷◌, Option, Some, None}
use Rattle.std.specs.List.{flat_map}
use Rattle.ws_code.specs.Keep.{Keeper}
use Rattle.ws_code.specs.declared.keep.Kept.TheVariants.{GoOn}
use Rattle.ws_code.specs.declared.reason.Reason.{Reason}
use Rattle.ws_extended.specs.ExtendedReasons.{ask_reason}
use Rattle.ws_extended.specs.declared.ask.Ask.{Ask}
use Rattle.ws_extended.specs.declared.asked.Asked.{Asked}
use Rattle.ws_extended.specs.declared.extended_element.ExtendedElement.{ExtendedElement}
use Rattle.ws_extended.specs.declared.extended_element.ExtendedElement.TheVariants.{Profile, Text, RestoreScreen}
use Rattle.ws_extended.specs.declared.extended_element.ExtendedElement.TheVariants.{Roll, WriteError, Asks}

-- what an element asks at once, if it asks
abbrev pub ask_in : ExtendedElement → List Ask
ask_in (Profile e) = []
ask_in (Text e) = []
ask_in RestoreScreen = []
ask_in (Roll r) = []
ask_in WriteError = []
ask_in (Asks ask) = ask ∷ []

-- what elements ask, in order
abbrev pub asks_in : List ExtendedElement → List Ask
asks_in units = flat_map ask_in units

-- the first command that asks, if one does
abbrev pub first_ask : List Ask → Option Ask
first_ask [] = None
first_ask (ask ∷ asks) = Some ask

-- why a record is refused that asks a second time: the reason of the second command that asks
abbrev pub second_reason : List Ask → Option Reason
second_reason [] = None
second_reason (ask ∷ []) = None
second_reason (ask ∷ again ∷ asks) = Some (ask_reason again)

-- what a record asks: this is the first command that asks, and this the reason of the second
abbrev pub HasAsked : List Ask → Option Ask → Option Reason → Type 0
HasAsked asks ask refused = (ask ≡ first_ask asks) × (refused ≡ second_reason asks)

-- what elements ask is kept, and no memory wanted
abbrev pub asked_keeper : Keeper ExtendedElement Asked
asked_keeper = record {
  holds = λ asked units told. HasAsked (asks_in units) asked.ask asked.refused;
  may_answer = λ answer. answer ≡ GoOn;
}
