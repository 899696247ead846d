-- The terminal types of 24 rows and 80 columns, and their names (RFC 1205)

use Rattle.std.specs.Prelude.{ℕ, List, [], ◌∷◌, Bool, Option, codes, find}
use Rattle.std.specs.Str.{str_eq_ignore_ascii_case}
use Rattle.ws_nego.specs.declared.terminal.TerminalType.{TerminalType}
use Rattle.ws_nego.specs.declared.terminal.TerminalType.TheVariants.{Ibm5251Model11, Ibm5291Model1, Ibm5292Model2}
use Rattle.ws_nego.specs.declared.terminal.TerminalType.TheVariants.{Ibm3196ModelA1, Ibm3179Model2}

-- the terminal types of 24 rows and 80 columns that a station may be (RFC 4777)
abbrev pub terminal_types : List TerminalType
terminal_types = Ibm5251Model11 ∷ Ibm5291Model1 ∷ Ibm5292Model2 ∷ Ibm3196ModelA1 ∷ Ibm3179Model2 ∷ []

-- the name of a terminal type (RFC 4777)
abbrev pub terminal_type_name : TerminalType → List ℕ
terminal_type_name Ibm5251Model11 = codes "IBM-5251-11"
terminal_type_name Ibm5291Model1 = codes "IBM-5291-1"
terminal_type_name Ibm5292Model2 = codes "IBM-5292-2"
terminal_type_name Ibm3196ModelA1 = codes "IBM-3196-A1"
terminal_type_name Ibm3179Model2 = codes "IBM-3179-2"

-- the bytes are the name of the terminal type, letters in either case (RFC 1091)
abbrev pub is_name_of : List ℕ → TerminalType → Bool
is_name_of bytes terminal = str_eq_ignore_ascii_case bytes (terminal_type_name terminal)

-- the terminal type that has the name, letters in either case, if one has it (RFC 1091)
unfoldable pub terminal_named : List ℕ → Option TerminalType
terminal_named bytes = find (is_name_of bytes) terminal_types
