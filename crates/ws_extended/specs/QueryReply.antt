-- What a station answers to a 5250 Query (SC30-3533, 5250 Query command, its reply). Which controller, code level and
-- serial number it tells is our own choice.
use Rattle.std.specs.Prelude.{ℕ, List, [], ◌∷◌, ◌++◌, Bool, true, false, codes, map, replicate, unwrap_or}
use Rattle.std.specs.Prelude.{if◌then◌else◌}
use Rattle.ws_code.specs.Ebcdic.{byte_of}
use Rattle.ws_nego.specs.declared.terminal.TerminalType.{TerminalType}
use Rattle.ws_nego.specs.declared.terminal.TerminalType.TheVariants.{Ibm5251Model11, Ibm5291Model1, Ibm5292Model2}
use Rattle.ws_nego.specs.declared.terminal.TerminalType.TheVariants.{Ibm3196ModelA1, Ibm3179Model2}

-- a terminal's type, of four characters, and its model, of three
abbrev pub type_and_model : TerminalType → List ℕ
type_and_model Ibm5251Model11 = codes "5251011"
type_and_model Ibm5291Model1 = codes "5291001"
type_and_model Ibm5292Model2 = codes "5292002"
type_and_model Ibm3196ModelA1 = codes "31960A1"
type_and_model Ibm3179Model2 = codes "3179002"

-- characters in code page 037
abbrev pub in_ebcdic : List ℕ → List ℕ
in_ebcdic text = map (λ c. unwrap_or (byte_of c) 0) text

-- the terminal has a colour display
abbrev pub shows_colors : TerminalType → Bool
shows_colors Ibm5292Model2 = true
shows_colors Ibm3179Model2 = true
shows_colors terminal = false

-- no cursor, the reply's AID, and a structured field: 58 bytes long, of class D9, type 70, a reply
abbrev pub reply_head : List ℕ
reply_head = 0x00 ∷ 0x00 ∷ 0x88 ∷ 0x00 ∷ 0x3A ∷ 0xD9 ∷ 0x70 ∷ 0x80 ∷ []

-- the controller and its code level, and 16 bytes that are reserved
abbrev pub controller : List ℕ
controller = 0x06 ∷ 0x00 ∷ 0x01 ∷ 0x01 ∷ 0x00 ∷ replicate 16 0

-- a display, its type and model
abbrev pub device : TerminalType → List ℕ
device terminal = 0x01 ∷ in_ebcdic (type_and_model terminal)

-- a standard keyboard, a serial number, 256 fields, and three bytes of no meaning here
abbrev pub equipment : List ℕ
equipment = 0x02 ∷ 0x00 ∷ 0x00 ∷ 0x00 ∷ 0x61 ∷ 0x50 ∷ 0x00 ∷ 0x01 ∷ 0x00 ∷ 0x00 ∷ 0x00 ∷ 0x00 ∷ []

-- Read MDT Fields Alternate, Move Cursor and Read Modified Immediate Alternate; 24 rows of 80 cells, with colours or
-- without; and eight bytes that are reserved
abbrev pub capabilities : TerminalType → List ℕ
capabilities terminal = 0x23 ∷ (if shows_colors terminal then 0x11 else 0x10) ∷ 0x00 ∷ 0x00 ∷ replicate 8 0

-- the 61 bytes that answer a 5250 Query, for a terminal
abbrev pub query_reply : TerminalType → List ℕ
query_reply terminal = reply_head ++ (controller ++ (device terminal ++ (equipment ++ capabilities terminal)))
