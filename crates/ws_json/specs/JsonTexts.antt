-- Items, refusals and the end of a stream as JSON (RFC 8259): each is an object on a line of its own, with no blank
-- outside strings. The members of the caller stand first in it, each with a comma after it.

use Rattle.std.specs.Prelude.{ℕ, List, ◌++◌, codes}
use Rattle.std.specs.Fmt.{decimal}
use Rattle.hex.specs.Hex.{encode_upper}
use Rattle.ws_code.specs.Reason.{name_of, number_of, text_of}
use Rattle.ws_code.specs.declared.reason.Reason.{Reason}
use Rattle.ws_record.specs.Grammar.{two_bytes, opcode_byte}
use Rattle.ws_record.specs.declared.record.Record.{Record}
use Rattle.ws_record.specs.declared.record.Item.{Item}
use Rattle.ws_record.specs.declared.record.Item.TheVariants.{Record as RecordItem, Telnet as TelnetItem}
use Rattle.ws_telnet.specs.declared.token.Telnet.{Telnet}
use Rattle.ws_text.specs.ItemLines.{telnet_name}
use Rattle.ws_json.specs.JsonStrings.{json_lines, json_string}

-- the caller's members, and a place
abbrev pub json_place : List ℕ → ℕ → List ℕ
json_place members place = codes "{" ++ members ++ codes "\"at\":" ++ decimal place

-- a record, with the place of its last byte: its header, and the lines of its body
abbrev pub json_record : {U : Type 0} → List ℕ → (List U → List ℕ) → ℕ → Record U → List ℕ
json_record members lines place r = json_place members place ++ codes ",\"flags\":\""
    ++ encode_upper (two_bytes r.flags) ++ codes "\",\"opcode\":" ++ decimal (opcode_byte r.opcode)
    ++ codes ",\"body\":" ++ json_lines (lines r.body) ++ codes "}\n"

-- a Telnet command, with the place of its last byte: its words
abbrev pub json_telnet : List ℕ → ℕ → Telnet → List ℕ
json_telnet members place telnet = json_place members place ++ codes ",\"telnet\":\"" ++ telnet_name telnet
    ++ codes "\"}\n"

-- an item, with the place of its last byte
abbrev pub json_item : {U : Type 0} → List ℕ → (List U → List ℕ) → ℕ → Item U → List ℕ
json_item members lines place (RecordItem r) = json_record members lines place r
json_item members lines place (TelnetItem telnet) = json_telnet members place telnet

-- a refusal, with the place of the byte: its reason's number and name, and what the reason says
abbrev pub json_refusal : List ℕ → ℕ → Reason → List ℕ
json_refusal members place reason = json_place members place ++ codes ",\"refused\":" ++ decimal (number_of reason)
    ++ codes ",\"name\":\"" ++ name_of reason ++ codes "\",\"sentence\":" ++ json_string (text_of reason)
    ++ codes "}\n"

-- the end of a stream that is truncated after so many bytes
abbrev pub json_truncated : List ℕ → ℕ → List ℕ
json_truncated members count = codes "{" ++ members ++ codes "\"truncated\":" ++ decimal count ++ codes "}\n"
