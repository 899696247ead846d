-- What is printed after the lines of a screen.

use Rattle.ws_screen.specs.ScreenParts.{ScreenParts}
use Rattle.ws_printing.proofs.Common.{ℕ, List, ◌++◌, ap, Look, IsScreenText, IsDisplayText}

-- the lines of a display are those of its screen, and these
pub display_text : (look : Look) (s : ScreenParts) (behind lines : List ℕ) → IsScreenText look s lines
    → IsDisplayText look s behind (lines ++ behind)
display_text look s behind lines h = ap (λ z. z ++ behind) h
