-- Sentences about reasons, as C sees them

use Rattle.std.specs.Prelude.{◌≡◌, ℕ, Option, Some, None, IfSome, IfNone}
use Rattle.ws_code.specs.Reason.{number_of, text_of}
use Rattle.ws_code.specs.declared.reason.Reason.{Reason}
use Rattle.ws_c.specs.declared.status.Status.TheVariants.{BadArgument}
use Rattle.ws_c.specs.declared.told.Told.{Told}
use Rattle.ws_c.specs.Calls.{Crossed, TellsOnly, told_length}
use Rattle.ws_c.specs.Sends.{IsFetched}

-- the reason of a number, where there is one
pub record IsReasonFrom (number : ℕ) (reason : Option Reason) : Type 0 where
  pub some : IfSome reason (λ r. number_of r ≡ number)
  pub none : IfNone reason ((r : Reason) → number_of r ≡ number → ⊥)

-- what a reason's sentence crosses as, where there is one
abbrev pub IsReasonTold : Option Reason → Crossed Told → Type 0
IsReasonTold None call = TellsOnly call BadArgument (told_length 0)
IsReasonTold (Some reason) call = IsFetched (text_of reason) call
