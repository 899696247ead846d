-- The answer that a host's end has taken, as C sees it (SC30-3533, responses to read commands)

use Rattle.std.specs.Prelude.{◌≡◌, ℕ, ◌+◌, ◌/◌, ◌%◌, ◌<◌, ◌≤◌, length, slice_get, Option, Some, None}
use Rattle.ws_keys.specs.declared.host_answer.HostAnswer.{HostAnswer}
use Rattle.ws_keys.specs.declared.host_answer.ReadField.{ReadField}
use Rattle.ws_c.specs.declared.host_answer.AnswerTold.{AnswerTold}
use Rattle.ws_c.specs.declared.host_answer.ReadFieldTold.{ReadFieldTold}
use Rattle.ws_c.specs.declared.status.Status.{Status}
use Rattle.ws_c.specs.declared.status.Status.TheVariants.{Done, NoRoom, BadArgument, NoAnswer}
use Rattle.ws_c.specs.Calls.{Crossed, TellsOnly, holds_front}

-- what of an answer is no field: its cursor, its AID, and how many fields it has
abbrev pub answer_told : HostAnswer → AnswerTold
answer_told a = record {
  field_count = length a.fields;
  cursor_row = a.cursor / 80 + 1;
  cursor_column = a.cursor % 80 + 1;
  aid = a.aid;
}

-- what is told of an answer where there is none
abbrev pub no_answer : AnswerTold
no_answer = record { field_count = 0; cursor_row = 0; cursor_column = 0; aid = 0 }

-- what is told of the last answer
abbrev pub IsAnswerTold : Option HostAnswer → Status → AnswerTold → Type 0
IsAnswerTold None status told = (status ≡ NoAnswer) × (told ≡ no_answer)
IsAnswerTold (Some answer) status told = (status ≡ Done) × (told ≡ answer_told answer)

-- what is told of a field of an answer, but for its content
abbrev pub read_field_told : ReadField → ReadFieldTold
read_field_told f = record { length = length f.content; row = f.address / 80 + 1; column = f.address % 80 + 1 }

-- what is told of a field of an answer where there is none
abbrev pub no_read_field : ReadFieldTold
no_read_field = record { length = 0; row = 0; column = 0 }

-- what is told of a field of an answer; a buffer with room for its content gets it
pub record IsContentTold (field : ReadField) (call : Crossed ReadFieldTold) : Type 0 where
  pub state : call.told ≡ read_field_told field
  pub room : length call.buffer < length field.content → (call.status ≡ NoRoom) × (call.after ≡ call.buffer)
  pub put : length field.content ≤ length call.buffer
      → (call.status ≡ Done) × (call.after ≡ holds_front field.content call.buffer)

-- what is told of a field of an answer, where there is one
abbrev pub IsReadFieldTold : Option ReadField → Crossed ReadFieldTold → Type 0
IsReadFieldTold None call = TellsOnly call BadArgument no_read_field
IsReadFieldTold (Some field) call = IsContentTold field call

-- what is told of a field of the last answer, by its index
abbrev pub IsFieldRead : Option HostAnswer → ℕ → Crossed ReadFieldTold → Type 0
IsFieldRead None index call = TellsOnly call NoAnswer no_read_field
IsFieldRead (Some answer) index call = IsReadFieldTold (slice_get answer.fields index) call
