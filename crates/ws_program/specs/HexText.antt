-- Hex text: two digits a byte, with blanks and line ends that don't count.

use Rattle.std.specs.Prelude.{◌≡◌, ℕ, List, Bool, Ok, IsErr, ◌==◌, ◌||◌, not, filter}
use Rattle.hex.specs.Hex.{decode_of}
use Rattle.ws_script.specs.declared.asked.fault.RunFault.{RunFault}
use Rattle.ws_script.specs.declared.asked.fault.RunFault.TheVariants as run
use Rattle.ws_program.specs.declared.hex_text.TextFault.{TextFault}
use Rattle.ws_program.specs.declared.hex_text.TextFault.TheVariants.{NotHex, Memory}

-- a blank, a tab, CR or LF
abbrev pub is_blank_byte : ℕ → Bool
is_blank_byte b = (b == 32) || (b == 9) || (b == 13) || (b == 10)

-- a text without its blanks, tabs, CR and LF
abbrev pub without_blanks : List ℕ → List ℕ
without_blanks text = filter (λ b. not (is_blank_byte b)) text

-- the bytes of a hex text
abbrev pub IsHexOf : List ℕ → List ℕ → Type 0
IsHexOf bytes text = decode_of (without_blanks text) ≡ Ok bytes

-- why a text gives no bytes: it isn't hex, or it is and a growth was refused
abbrev pub IsHexTextFault : List ℕ → TextFault → Type 0
IsHexTextFault text NotHex = IsErr (decode_of (without_blanks text))
IsHexTextFault text Memory = (bytes : List ℕ) × IsHexOf bytes text

-- such a fault as the program's own
abbrev pub text_run_fault : TextFault → RunFault
text_run_fault NotHex = run.NotHex
text_run_fault Memory = run.Memory
