-- The bytes that a key sends (RFC 1205, section 3; SC30-3533, responses to read commands).

use Rattle.std.specs.Prelude.{ℕ, ◌+◌, ◌≤◌, List, [], ◌++◌, Option, None, Some, length}
use Rattle.ws_record.specs.declared.opcode.Opcode.TheVariants.{NoOperation, PutGet}
use Rattle.ws_record.specs.Encode.{record_spelling}
use Rattle.ws_record.specs.Grammar.{header}
use Rattle.ws_keys.specs.declared.answer.TheConstants.{MAX_ANSWER_BYTES}
use Rattle.ws_keys.specs.declared.answer.Answer.{Answer}
use Rattle.ws_keys.specs.declared.answer.Answer.TheVariants.{Read, Attention, SystemRequest}
use Rattle.ws_end.specs.declared.station.answer.TheConstants.{ATN, SRQ}

-- the record that a key sends: a read's answer with opcode Put/Get, or an empty one with ATN or SRQ (RFC 1205,
-- section 3)
abbrev pub answer_spelling : Answer → List ℕ
answer_spelling (Read body) = record_spelling (header (10 + length body) 0 PutGet ++ body)
answer_spelling Attention = record_spelling (header 10 ATN NoOperation)
answer_spelling SystemRequest = record_spelling (header 10 SRQ NoOperation)

-- the bytes of what a key sends, if anything
abbrev pub sent_by : Option Answer → List ℕ
sent_by None = []
sent_by (Some answer) = answer_spelling answer

-- the answer to a read is no longer than the longest, 2,691 bytes
abbrev pub IsShortAnswer : Answer → Type 0
IsShortAnswer (Read body) = length body ≤ MAX_ANSWER_BYTES
IsShortAnswer answer = Unit {0}
