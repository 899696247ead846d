-- The text of a dialogue in a form: each entry, and what stands at the end for each end.

use Rattle.std.specs.Prelude.{List, ◌++◌, ℕ, ◌-◌, flat_map}
use Rattle.ws_text.specs.ExtendedAnswerLines.{told_lines}
use Rattle.ws_text.specs.ExtendedLines.{extended_lines}
use Rattle.ws_text.specs.ItemLines.{item_lines}
use Rattle.ws_trace.specs.TraceObjects.{end_object, entry_members, told_object}
use Rattle.ws_trace.specs.TraceText.{BothSent, both_sent, end_line, entry_head, told_at_text}
use Rattle.ws_trace.specs.declared.dialogue.Dialogue.{Dialogue}
use Rattle.ws_trace.specs.declared.dialogue.EndCount.{EndCount}
use Rattle.ws_trace.specs.declared.entry.EndTold.{EndTold}
use Rattle.ws_trace.specs.declared.entry.EndTold.TheVariants as told_of
use Rattle.ws_trace.specs.declared.entry.Entry.{Entry}
use Rattle.ws_trace.specs.declared.piece.Piece.{Piece}
use Rattle.ws_trace.specs.declared.piece.TracedEnd.{TracedEnd}
use Rattle.ws_trace.specs.declared.piece.TracedEnd.TheVariants.{Host, Station}
use Rattle.ws_trace.specs.declared.told.Told.{Told}
use Rattle.ws_trace.specs.declared.trace_text.Streams.{Streams}
use Rattle.ws_trace.specs.declared.trace_text.TraceForm.{TraceForm}
use Rattle.ws_trace.specs.declared.trace_text.TraceForm.TheVariants.{Lines, Objects}

-- the streams of both ends that the code holds, as lists
abbrev pub sent_in : Streams → BothSent
sent_in streams = record { begun = streams.begun; host = streams.host.now; station = streams.station.now }

-- what is told of an end at a time, by a byte at a place of its stream, in a form
abbrev pub in_form : {U : Type 0} → TraceForm → ℕ → TracedEnd → (List U → List ℕ) → ℕ → Told U → List ℕ → List ℕ
in_form (Lines heads) time end lines place told stream =
    entry_head heads time end ++ told_at_text (item_lines lines) place told stream
in_form (Objects heads) time end lines place told stream =
    told_object (entry_members heads time end) lines place told stream

-- the same of either end
abbrev pub end_in_form : TraceForm → BothSent → ℕ → ℕ → EndTold → List ℕ
end_in_form form sent time place (told_of.Host told) = in_form form time Host extended_lines place told sent.host
end_in_form form sent time place (told_of.Station told) = in_form form time Station told_lines place told sent.station

-- an entry in a form
abbrev pub entry_in : TraceForm → BothSent → Entry → List ℕ
entry_in form sent entry = end_in_form form sent (entry.milliseconds - sent.begun) entry.place entry.told

-- an end in a form
abbrev pub end_in : TraceForm → TracedEnd → EndCount → List Entry → List ℕ
end_in (Lines heads) end count entries = end_line end count entries
end_in (Objects heads) end count entries = end_object end count entries

-- the text of a dialogue of these streams
abbrev pub dialogue_of_streams : TraceForm → BothSent → Dialogue → List ℕ
dialogue_of_streams form sent dialogue = flat_map (entry_in form sent) dialogue.entries.items
    ++ end_in form Host dialogue.host dialogue.entries.items
    ++ end_in form Station dialogue.station dialogue.entries.items

-- the text of a dialogue of these pieces
abbrev pub dialogue_text : TraceForm → List Piece → Dialogue → List ℕ
dialogue_text form pieces dialogue = dialogue_of_streams form (both_sent pieces) dialogue
