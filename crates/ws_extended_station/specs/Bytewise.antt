-- Items by their bytes: what a display writes that is no answer of a key has no parts of its own.
use Rattle.std.specs.Prelude.{◌≡◌, ℕ, ◌+◌, List, [], ◌∷◌, ◌++◌, map, refl, length}
use Rattle.std.proofs.Common.{ap, ap₂}
use Rattle.ws_code.specs.Code.{spelling_of}
use Rattle.ws_record.specs.Encode.{item_spelling, plain_spelling, record_spelling}
use Rattle.ws_record.specs.Grammar.{header}
use Rattle.ws_record.specs.RawBody.{raw_rules}
use Rattle.ws_record.specs.declared.record.Item.{Item}
use Rattle.ws_record.specs.declared.record.Item.TheVariants.{Record as RecordItem, Telnet as TelnetItem}
use Rattle.ws_stream.specs.AnswerParts.{answer_rules}
use Rattle.ws_stream.specs.declared.answer_part.AnswerPart.{AnswerPart}

-- an item of a station with its body by its bytes
abbrev pub by_bytes : Item AnswerPart → Item ℕ
by_bytes (RecordItem r) =
    RecordItem (record { flags = r.flags; opcode = r.opcode; body = spelling_of answer_rules r.body })
by_bytes (TelnetItem t) = TelnetItem t

-- bytes are spelled as they are
pub raw_spelling : (bytes : List ℕ) → spelling_of raw_rules bytes ≡ bytes
raw_spelling [] = refl
raw_spelling (b ∷ bytes) = ap (λ (bs : List ℕ). b ∷ bs) (raw_spelling bytes)

-- and so are items by their bytes
item_alike : (item : Item AnswerPart) → item_spelling raw_rules (by_bytes item) ≡ item_spelling answer_rules item
item_alike (RecordItem r) =
    ap (λ (bytes : List ℕ). record_spelling (header (10 + length bytes) r.flags r.opcode ++ bytes))
    (raw_spelling (spelling_of answer_rules r.body))
item_alike (TelnetItem t) = refl

pub spelled_alike : (items : List (Item AnswerPart))
    → plain_spelling raw_rules (map by_bytes items) ≡ plain_spelling answer_rules items
spelled_alike [] = refl
spelled_alike (item ∷ items) = ap₂ (λ (a b : List ℕ). a ++ b) (item_alike item) (spelled_alike items)
