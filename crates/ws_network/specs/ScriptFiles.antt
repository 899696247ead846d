-- Why the file of a script gives no lines.

use Rattle.std.specs.Prelude.{◌⊎◌, ℕ, List}
use Rattle.std.specs.Str.Lines.{lines}
use Rattle.ws_script.specs.lines.LiveScript.{IsReadingFault, LineLanguage}
use Rattle.ws_printing.specs.declared.script.ScriptFault.TheVariants as script
use Rattle.ws_network.specs.InputLines.{IsUnreadFault}
use Rattle.ws_script.specs.cause.ToldCauses.{IsLineTold}
use Rattle.ws_script.specs.declared.asked.fault.ToldFault.{ToldFault}
use Rattle.ws_script.specs.declared.cause.vocabulary.Vocabulary.{Vocabulary}

-- it can't be read, a growth was refused, or its first bad line is told with its cause
abbrev pub IsFileFault : {L : Type 0} → LineLanguage L → Vocabulary → ToldFault → Type 0
IsFileFault language vocabulary told = IsUnreadFault told ⊎ ((file : List ℕ) × (number : ℕ)
    × IsReadingFault language file (script.Line number) × IsLineTold vocabulary (lines file) number told)
