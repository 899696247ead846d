-- Which bytes of a stream an input tells.

use Rattle.std.specs.Prelude.{◌≡◌, ℕ, List, IsErr}
use Rattle.hex.specs.Hex.{decode_of}
use Rattle.ws_program.specs.HexText.{IsHexOf, without_blanks}
use Rattle.ws_program.specs.Recorded.{IsSentIn, IsFirstOther}
use Rattle.ws_script.specs.declared.asked.fault.RunFault.{RunFault}
use Rattle.ws_script.specs.declared.asked.fault.RunFault.TheVariants.{NotHex, Line, Memory}
use Rattle.ws_program.specs.declared.stream_bytes.StreamBytes.{StreamBytes}
use Rattle.ws_program.specs.declared.stream_bytes.StreamBytes.TheVariants.{Given, Read}
use Rattle.ws_program.specs.declared.words.command_line.StreamForm.{StreamForm}
use Rattle.ws_program.specs.declared.words.command_line.StreamForm.TheVariants.{Hex, Recorded, Raw}

-- the bytes that an input tells: those of its hex text, what an end sent by its lines, or its own
abbrev pub AreBytesOf : StreamForm → List ℕ → List ℕ → Type 0
AreBytesOf Hex bytes input = IsHexOf bytes input
AreBytesOf (Recorded end) bytes input = IsSentIn end bytes input
AreBytesOf Raw bytes input = bytes ≡ input

-- why an input gives no bytes: it has another form, or it has this one and a growth was refused
abbrev pub IsFormFault : StreamForm → List ℕ → RunFault → Type 0
IsFormFault Hex input NotHex = IsErr (decode_of (without_blanks input))
IsFormFault Hex input Memory = (bytes : List ℕ) × IsHexOf bytes input
IsFormFault Hex input fault = ⊥
IsFormFault (Recorded end) input (Line number) = IsFirstOther input number
IsFormFault (Recorded end) input Memory = (bytes : List ℕ) × IsSentIn end bytes input
IsFormFault (Recorded end) input fault = ⊥
IsFormFault Raw input fault = ⊥

-- the bytes that are held
abbrev pub held_bytes : StreamBytes → List ℕ
held_bytes (Given bytes) = bytes.now
held_bytes (Read bytes) = bytes.items
