use Rattle.std.proofs.Common.{take}
use Rattle.ws_program.proofs.HexDigits.{Looked}
use Rattle.ws_program.proofs.hex_text.is_hex.Given as goal

-- the bytes so far were looked at
abbrev pub invariant-loop-byte : goal.invariant-loop-byte
invariant-loop-byte l = Looked (take l.byte-index l.text) l.is_odd l.is_text
