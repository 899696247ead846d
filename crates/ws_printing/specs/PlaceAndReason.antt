-- Where a byte is refused, and why, in a printed line.

use Rattle.std.specs.Prelude.{ℕ, List, [], ◌∷◌, ◌++◌, codes}
use Rattle.std.specs.Fmt.{decimal}
use Rattle.ws_code.specs.declared.reason.Reason.{Reason}
use Rattle.ws_code.specs.Reason.{number_of, name_of}

-- a byte's place, and for what reason it is refused, up to the line's end
abbrev pub place_and_reason : ℕ → Reason → List ℕ
place_and_reason place reason = decimal place ++ codes ": reason " ++ decimal (number_of reason) ++ codes " "
    ++ name_of reason ++ 10 ∷ []
