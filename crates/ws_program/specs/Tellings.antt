-- What is told of a sender's bytes.

use Rattle.std.specs.Prelude.{ℕ, List, Bool}
use Rattle.ws_code.specs.Code.{Rules}
use Rattle.ws_code.specs.declared.fault.Fault.{Fault}
use Rattle.ws_text.specs.Printed.{Printing}
use Rattle.ws_printing.specs.Checking.{check_printing}
use Rattle.ws_printing.specs.declared.look.Look.{Look}
use Rattle.ws_program.specs.AllTold.{check_all_printing, file_head, show_all_printing}
use Rattle.ws_program.specs.StreamText.{View, show_printing, showing}
use Rattle.ws_program.specs.declared.telling.Telling.{Telling}
use Rattle.ws_program.specs.declared.telling.Telling.TheVariants.{Check, CheckAll, Show, ShowAll}

-- what is printed of bytes: of these rules, these lines of a body, and this view in a paint and on a page
abbrev pub told_printing : {Place U : Type 0} → Rules Place U → (List U → List ℕ) → (Look → View U) → Telling → List ℕ
    → Printing Bool Fault
told_printing rules body view (Check cut) bytes = check_printing rules bytes
told_printing rules body view (CheckAll name) bytes = check_all_printing rules (file_head name) bytes
told_printing rules body view (Show look) bytes = show_printing (showing rules (view look)) bytes
told_printing rules body view (ShowAll form) bytes = show_all_printing rules body view form bytes
