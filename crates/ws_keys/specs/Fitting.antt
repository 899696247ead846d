-- Whether parts fit a read of modified fields, part by part: what the private calls of `split_answer` test where memory
-- is wanting.
use Rattle.std.specs.Prelude.{ℕ, ◌+◌, ◌-◌, List, [], ◌∷◌, Bool, true, false, Option, Some, None, find, nat_le, nat_lt}
use Rattle.std.specs.Prelude.{if◌then◌else◌}
use Rattle.std.specs.Option.{option_map, option_map_or}
use Rattle.ws_stream.specs.declared.answer_part.AnswerPart.{AnswerPart}
use Rattle.ws_stream.specs.declared.answer_part.AnswerPart.TheVariants.{Head, Byte, At}
use Rattle.ws_screen.specs.declared.field.Field.{Field}
use Rattle.ws_screen.specs.Formats.{starts_at}
use Rattle.ws_keys.specs.Contents.{sent_length}
use Rattle.ws_keys.specs.declared.fitting.Expected.{Expected}

-- before the first address no byte may come
abbrev pub at_first : Expected
at_first = record { next = 0; room = 0 }

-- a byte takes a cell of the room
abbrev pub behind_byte : Expected → Option Expected
behind_byte e = if nat_lt 0 e.room then Some (record { next = e.next; room = e.room - 1 }) else None

-- an address begins the content of a later field
abbrev pub behind_address : List Field → Expected → ℕ → Option Expected
behind_address fields e p = if nat_le e.next p
    then option_map (λ f. record { next = p + 1; room = sent_length f }) (find (starts_at p) fields) else None

-- what may come after a part; none where the part does not fit
abbrev pub behind_part : List Field → Expected → AnswerPart → Option Expected
behind_part fields e (Byte b) = behind_byte e
behind_part fields e (At p) = behind_address fields e p
behind_part fields e (Head cursor aid) = None

-- the parts fit, one after another
abbrev pub fits_from : List Field → Expected → List AnswerPart → Bool
fits_from fields e [] = true
fits_from fields e (part ∷ parts) =
    option_map_or (λ behind. fits_from fields behind parts) (behind_part fields e part) false
