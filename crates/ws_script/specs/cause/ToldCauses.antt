-- A bad line told with its cause.

use Rattle.std.specs.Prelude.{◌≡◌, ℕ, List, string_bytes}
use Rattle.ws_script.specs.cause.Causes.{IsCauseAt}
use Rattle.ws_script.specs.cause.CauseTexts.{IsCauseText}
use Rattle.ws_script.specs.declared.cause.Cause.{Cause}
use Rattle.ws_script.specs.declared.asked.fault.RunFault.TheVariants as run
use Rattle.ws_script.specs.declared.asked.fault.ToldFault.{ToldFault}
use Rattle.ws_script.specs.declared.asked.fault.ToldFault.TheVariants.{Run, Line}
use Rattle.ws_script.specs.declared.cause.vocabulary.Vocabulary.{Vocabulary}

-- a cause of the line of this number, in words
abbrev pub TellsCause : Vocabulary → List (List ℕ) → ℕ → List ℕ → Type 0
TellsCause vocabulary lines number text = (cause : Cause) × IsCauseAt vocabulary lines number cause
    × IsCauseText cause text

-- the bad line of this number is told with its cause, or memory was wanted
abbrev pub IsLineTold : Vocabulary → List (List ℕ) → ℕ → ToldFault → Type 0
IsLineTold vocabulary lines number (Line told cause) = (told ≡ number) × TellsCause vocabulary lines number (string_bytes cause)
IsLineTold vocabulary lines number told = told ≡ Run run.Memory
