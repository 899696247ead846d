-- The names under which seven of the commands beside the profile are printed and read. Each stands alone in its line,
-- since none has control characters; a Roll has values of its own.
use Rattle.std.specs.Prelude.{ℕ, List, [], ◌∷◌, Option, Some, None, codes, if◌then◌else◌}
use Rattle.std.specs.Str.{bytes_eq}
use Rattle.ws_extended.specs.declared.ask.Ask.TheVariants.{Query, SaveScreen, ReadScreen, ReadImmediate}
use Rattle.ws_extended.specs.declared.ask.Ask.TheVariants.{ReadImmediateAlternate}
use Rattle.ws_extended.specs.declared.extended_element.ExtendedElement.{ExtendedElement}
use Rattle.ws_extended.specs.declared.extended_element.ExtendedElement.TheVariants.{Profile, Text, RestoreScreen}
use Rattle.ws_extended.specs.declared.extended_element.ExtendedElement.TheVariants.{Roll, WriteError, Asks}

-- a command's name, if the element is one of these seven
abbrev pub command_name : ExtendedElement → Option (List ℕ)
command_name (Profile e) = None
command_name (Text e) = None
command_name RestoreScreen = Some (codes "RESTORE-SCREEN")
command_name (Roll r) = None
command_name WriteError = Some (codes "WRITE-ERROR")
command_name (Asks Query) = Some (codes "QUERY")
command_name (Asks SaveScreen) = Some (codes "SAVE-SCREEN")
command_name (Asks ReadScreen) = Some (codes "READ-SCREEN")
command_name (Asks ReadImmediate) = Some (codes "READ-IMMEDIATE")
command_name (Asks ReadImmediateAlternate) = Some (codes "READ-IMMEDIATE-ALTERNATE")

-- the table of the seven and their names
abbrev pub command_names : List (List ℕ × ExtendedElement)
command_names = (codes "QUERY", Asks Query) ∷ (codes "SAVE-SCREEN", Asks SaveScreen)
    ∷ (codes "RESTORE-SCREEN", RestoreScreen) ∷ (codes "WRITE-ERROR", WriteError)
    ∷ (codes "READ-SCREEN", Asks ReadScreen) ∷ (codes "READ-IMMEDIATE", Asks ReadImmediate)
    ∷ (codes "READ-IMMEDIATE-ALTERNATE", Asks ReadImmediateAlternate) ∷ []

-- what a table has for a name, if it has the name
abbrev pub look_up_command : List ℕ → List (List ℕ × ExtendedElement) → Option ExtendedElement
look_up_command name [] = None
look_up_command name ((known, e) ∷ rest) = if bytes_eq name known then Some e else look_up_command name rest
