-- Entries of a dialogue as objects of JSON (RFC 8259), whose first members are the time, if it is told, and the sender;
-- and an object for each end.

use Rattle.std.specs.Prelude.{Bool, ℕ, List, ◌++◌, codes, if◌then◌else◌}
use Rattle.std.specs.Fmt.{decimal}
use Rattle.hex.specs.Hex.{encode_upper}
use Rattle.ws_json.specs.JsonTexts.{json_item, json_refusal}
use Rattle.ws_trace.specs.TraceText.{eight_before, eight_from, end_name, end_records, end_refusals, seconds_text}
use Rattle.ws_trace.specs.declared.dialogue.EndCount.{EndCount}
use Rattle.ws_trace.specs.declared.entry.Entry.{Entry}
use Rattle.ws_trace.specs.declared.piece.TracedEnd.{TracedEnd}
use Rattle.ws_trace.specs.declared.told.Told.{Told}
use Rattle.ws_trace.specs.declared.told.Told.TheVariants.{Whole, Refused}
use Rattle.ws_trace.specs.declared.trace_text.Heads.{Heads}
use Rattle.ws_trace.specs.declared.trace_text.Heads.TheVariants.{Timed, Untimed}

-- the sender as a member, with the comma after it
abbrev pub end_member : TracedEnd → List ℕ
end_member end = codes "\"end\":\"" ++ end_name end ++ codes "\","

-- the members that stand first: the time in seconds, if it is told, and the sender
abbrev pub entry_members : Heads → ℕ → TracedEnd → List ℕ
entry_members Timed time end = codes "\"time\":" ++ seconds_text time ++ codes "," ++ end_member end
entry_members Untimed time end = end_member end

-- the bytes round a place of a stream as members: those before it, and those from it on
abbrev pub bytes_members : ℕ → List ℕ → List ℕ
bytes_members place stream = codes "\"before\":\"" ++ encode_upper (eight_before place stream)
    ++ codes "\",\"from\":\"" ++ encode_upper (eight_from place stream) ++ codes "\","

-- the object of what is told at a place of a stream
abbrev pub told_object : {U : Type 0} → List ℕ → (List U → List ℕ) → ℕ → Told U → List ℕ → List ℕ
told_object members lines place (Whole item) stream = json_item members lines place item
told_object members lines place (Refused reason) stream =
    json_refusal (members ++ bytes_members place stream) place reason

-- a truth as JSON has it
abbrev pub truth_word : Bool → List ℕ
truth_word is_so = if is_so then codes "true" else codes "false"

-- the object of an end: how many bytes it sent, how many records of it are whole, how often something of it is refused,
-- and whether its stream may end there
abbrev pub end_object : TracedEnd → EndCount → List Entry → List ℕ
end_object end count entries = codes "{" ++ end_member end ++ codes "\"bytes\":" ++ decimal count.bytes
    ++ codes ",\"records\":" ++ decimal (end_records end entries)
    ++ codes ",\"refused\":" ++ decimal (end_refusals end entries)
    ++ codes ",\"whole\":" ++ truth_word count.is_whole ++ codes "}\n"
