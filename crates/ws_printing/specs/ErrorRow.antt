-- What an operator meets at a display that live hosts use (SC30-3533, operator errors and Write Error Code command).

use Rattle.std.specs.Prelude.{◌≡◌, ◌⊎◌, ℕ, List, [], ◌∷◌, ◌++◌, false, Option, Some, None, codes}
use Rattle.std.specs.Option.{IsSome}
use Rattle.std.specs.Fmt.{decimal}
use Rattle.ws_extended_station.specs.ExtendedDisplays.{DisplayParts, standing_row}
use Rattle.ws_printing.specs.Operating.{OperatedOn}

-- the line of the row on which an error stands, where one does (own choice)
abbrev pub error_line : Option ℕ → List ℕ
error_line None = []
error_line (Some row) = codes "error row " ++ decimal row ++ 10 ∷ []

-- It is the operator's turn where the keyboard is unlocked, or where an error stands: then Reset is waited for. The
-- error's row is printed after the screen.
abbrev pub operated_extended : OperatedOn DisplayParts
operated_extended = record {
  IsTurn = λ d. (d.display.screen.locked ≡ false) ⊎ IsSome (standing_row d.display);
  behind = λ d. error_line (standing_row d.display);
}
