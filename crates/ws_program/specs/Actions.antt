-- What a command does: it is refused before anything is written, or prints something.

use Rattle.std.specs.Prelude.{◌≡◌, Result, IsErrAnd, ◌⊎◌}
use Rattle.ws_code.specs.Device.{Writer}
use Rattle.ws_text.specs.Printed.{Printing, IsPrinted}

-- What a command does, told without a sink: the faults that it answers before anything is written, and what it prints.
pub record Action (A E : Type 0) : Type 1 where
  pub Refuses : E → Type 0
  pub prints : Printing A E

-- what a command came to: it was refused, and nothing was written; or this was printed
abbrev pub IsCarriedOut : {S A E : Type 0} → Writer S → S → S → Action A E → Result A E → Type 0
IsCarriedOut writer from to action outcome = IsErrAnd outcome (λ fault. (to ≡ from) × action.Refuses fault)
    ⊎ IsPrinted writer from to action.prints outcome
