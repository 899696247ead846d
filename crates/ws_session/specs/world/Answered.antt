-- The answers that a session tells, and those on their way.

use Rattle.std.specs.Prelude.{ℕ, ◌-◌, List, [], ◌∷◌, Bool, true, false, if◌then◌else◌, nat_lt, length, filter}
use Rattle.std.specs.List.{flat_map}
use Rattle.ws_code.specs.Code.{Rules}
use Rattle.ws_record.specs.declared.opcode.Opcode.{Opcode}
use Rattle.ws_record.specs.declared.opcode.Opcode.TheVariants.{PutGet}
use Rattle.ws_record.specs.declared.record.Item.{Item}
use Rattle.ws_record.specs.declared.record.Item.TheVariants.{Record as RecordItem, Telnet as TelnetItem}
use Rattle.ws_record.specs.Encode.{item_spelling}
use Rattle.ws_stream.specs.AnswerParts.{answer_rules}
use Rattle.ws_stream.specs.declared.answer_part.AnswerPart.{AnswerPart}
use Rattle.ws_keys.specs.declared.host_answer.HostAnswer.{HostAnswer}
use Rattle.ws_end.specs.declared.host_end.host_event.HostEvent.{HostEvent}
use Rattle.ws_end.specs.declared.host_end.host_event.HostEvent.TheVariants.{Answer as Answered}
use Rattle.ws_session.specs.declared.world.Event.{Event}
use Rattle.ws_session.specs.declared.world.Event.TheVariants.{Host}
use Rattle.ws_session.specs.world.Session.{Session}

-- the answers that the host end has told
abbrev pub host_answers : HostEvent → List HostAnswer
host_answers (Answered answer) = answer ∷ []
host_answers event = []

-- the host's answer that an event tells, if it tells one
abbrev pub answer_in : Event → List HostAnswer
answer_in (Host event) = host_answers event
answer_in event = []

-- the host's answers that events tell, in order
abbrev pub answers_in : List Event → List HostAnswer
answers_in events = flat_map answer_in events

-- the items that haven't wholly arrived with so many bytes
module _ {Place U : Type 0} (rules : Rules Place U) where
  -- the items that haven't wholly arrived with so many bytes
  abbrev pub items_coming : List (Item U) → ℕ → List (Item U)
  items_coming [] n = []
  items_coming (item ∷ items) n = let size = length (item_spelling rules item) in
      if nat_lt n size then item ∷ items else items_coming items (n - size)

-- the opcode is that of an answer to a read: Put/Get (RFC 1205, section 4)
abbrev pub answers_by : Opcode → Bool
answers_by PutGet = true
answers_by opcode = false

-- the item is an answer to a read
abbrev pub is_answer : Item AnswerPart → Bool
is_answer (RecordItem r) = answers_by r.opcode
is_answer (TelnetItem token) = false

-- the answers to reads that are on their way to the host end
abbrev pub answers_coming : Session → List (Item AnswerPart)
answers_coming w = filter is_answer (items_coming answer_rules w.up w.at_host)
