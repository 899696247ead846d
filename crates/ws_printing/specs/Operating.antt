-- A display that an operator drives by lines.

use Rattle.std.specs.Prelude.{◌≡◌, ℕ, List, [], false}
use Rattle.ws_end.specs.station.StationEndState.{ProfileParts}

-- when it is the operator's turn, and what is printed after the lines of its screen
pub record OperatedOn (D : Type 0) : Type 1 where
  pub IsTurn : D → Type 0
  pub behind : D → List ℕ

-- the profile: the keyboard is unlocked, and nothing is printed after the screen
abbrev pub operated_profile : OperatedOn ProfileParts
operated_profile = record { IsTurn = λ d. d.screen.locked ≡ false; behind = λ d. [] }
