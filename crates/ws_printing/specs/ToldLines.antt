-- What a live host prints of what its end tells: as a session's report does, and after each field of an answer the
-- text that its bytes show.

use Rattle.std.specs.Prelude.{ℕ, List, ◌++◌, codes}
use Rattle.std.specs.List.{flat_map}
use Rattle.ws_keys.specs.declared.host_answer.ReadField.{ReadField}
use Rattle.ws_screen.specs.Lines.{shown_char}
use Rattle.ws_end.specs.declared.host_end.host_event.HostEvent.{HostEvent}
use Rattle.ws_end.specs.declared.host_end.host_event.HostEvent.TheVariants.{Answer}
use Rattle.ws_text.specs.ItemLines.{cell_text, hex_behind_blank}
use Rattle.ws_printing.specs.Characters.{after_blank, without_last_blanks}
use Rattle.ws_printing.specs.PlayLines.{answer_line, host_event_text}

-- a field of an answer: its first cell, its content where there is any, and the text that this shows, without the
-- blanks at its end
abbrev pub told_field : ReadField → List ℕ
told_field field = codes "  field " ++ cell_text field.address ++ hex_behind_blank field.content
    ++ after_blank shown_char (without_last_blanks shown_char field.content) ++ codes "\n"

-- what a host end tells
abbrev pub told_text : HostEvent → List ℕ
told_text (Answer answer) = answer_line answer ++ flat_map told_field answer.fields
told_text event = host_event_text event
