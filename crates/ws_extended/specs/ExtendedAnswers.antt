-- The bodies of a live host's station (SC30-3533, commands and their responses): the answers of the profile, and what
-- is told at once.
use Rattle.std.specs.Prelude.{ℕ, ◌<◌, zero, suc, List, [], ◌∷◌, ◌++◌, Bool, true, false, ◌==◌, if◌then◌else◌}
use Rattle.ws_code.specs.declared.address.TheConstants.{CELLS}
use Rattle.ws_code.specs.Code.{Rules}
use Rattle.ws_code.specs.declared.reason.Reason.{Reason}
use Rattle.ws_code.specs.declared.reason.Reason.TheVariants.{BadAddress, BadAid, SaveRestore, StructuredField}
use Rattle.ws_stream.specs.AnswerParts.{IsPart, may_follow, part_reason, part_spelling}
use Rattle.ws_stream.specs.Elements.{row_and_column}
use Rattle.ws_stream.specs.declared.answer_place.AnswerPlace.TheVariants as answers
use Rattle.ws_stream.specs.declared.command_code.TheConstants.{CLEAR_UNIT, ESCAPE, RESTORE_SCREEN}
use Rattle.ws_stream.specs.declared.element.Element.TheVariants.{ClearUnit}
use Rattle.ws_extended.specs.ExtendedElements.{IsExtended, extended_follows, extended_spelling, place_behind}
use Rattle.ws_extended.specs.ExtendedReasons.{extended_reason}
use Rattle.ws_extended.specs.QueryReply.{reply_head}
use Rattle.ws_extended.specs.Telling.{NO_KEY}
use Rattle.ws_extended.specs.declared.extended_answer_part.ExtendedAnswerPart.{ExtendedAnswerPart}
use Rattle.ws_extended.specs.declared.extended_answer_part.ExtendedAnswerPart.TheVariants.{Profile, QueryReply, Reply}
use Rattle.ws_extended.specs.declared.extended_answer_part.ExtendedAnswerPart.TheVariants.{Saved, Of, AtOnce}
use Rattle.ws_extended.specs.declared.extended_answer_place.ExtendedAnswerPlace.{ExtendedAnswerPlace}
use Rattle.ws_extended.specs.declared.extended_answer_place.ExtendedAnswerPlace.TheVariants.{Beginning, Fields, InReply}
use Rattle.ws_extended.specs.declared.extended_answer_place.ExtendedAnswerPlace.TheVariants.{Replied, InSaved}
use Rattle.ws_extended.specs.declared.extended_element.ExtendedElement.TheVariants as elements

-- how many bytes of a reply stand after the first that follows its front
abbrev pub LATER_REPLY_BYTES : ℕ
LATER_REPLY_BYTES = 52

-- the bytes that a saved screen begins with: what was saved comes back after a Restore Screen, and an image begins
-- with Clear Unit
abbrev pub saved_front : List ℕ
saved_front = ESCAPE ∷ RESTORE_SCREEN ∷ ESCAPE ∷ CLEAR_UNIT ∷ []

-- the bytes of a part of an answer
abbrev pub extended_part_spelling : ExtendedAnswerPart → List ℕ
extended_part_spelling (Profile p) = part_spelling p
extended_part_spelling QueryReply = reply_head
extended_part_spelling (Reply left byte) = byte ∷ []
extended_part_spelling Saved = saved_front
extended_part_spelling (Of e) = extended_spelling e
extended_part_spelling (AtOnce cursor) = row_and_column cursor ++ NO_KEY ∷ []

-- what a part of an answer may be: the ranges of its numbers and lists
abbrev pub IsAnswerPart : ExtendedAnswerPart → Type 0
IsAnswerPart (Profile p) = IsPart p
IsAnswerPart QueryReply = Unit {0}
IsAnswerPart (Reply left byte) = byte < 256
IsAnswerPart Saved = Unit {0}
IsAnswerPart (Of e) = IsExtended e
IsAnswerPart (AtOnce cursor) = cursor < CELLS

-- which parts of an answer may stand where: a body begins as an answer of the profile or with one of the three, and
-- goes on as it began
abbrev pub answer_follows : ExtendedAnswerPlace → ExtendedAnswerPart → Bool
answer_follows Beginning (Profile p) = may_follow answers.Beginning p
answer_follows Beginning QueryReply = true
answer_follows Beginning (Reply left byte) = false
answer_follows Beginning Saved = true
answer_follows Beginning (Of e) = false
answer_follows Beginning (AtOnce cursor) = true
answer_follows Fields (Profile p) = may_follow answers.Fields p
answer_follows Fields part = false
answer_follows (InReply n) (Reply left byte) = left == n
answer_follows (InReply n) part = false
answer_follows Replied QueryReply = true
answer_follows Replied part = false
answer_follows (InSaved at) (Of e) = extended_follows at e
answer_follows (InSaved at) part = false

-- the place after a byte of a reply, by how many bytes follow
abbrev pub behind_reply : ℕ → ExtendedAnswerPlace
behind_reply zero = Replied
behind_reply (suc n) = InReply n

-- the place after a part of an answer
abbrev pub place_behind_part : ExtendedAnswerPart → ExtendedAnswerPlace
place_behind_part (Profile p) = Fields
place_behind_part QueryReply = InReply LATER_REPLY_BYTES
place_behind_part (Reply left byte) = behind_reply left
place_behind_part Saved = InSaved (place_behind (elements.Profile ClearUnit))
place_behind_part (Of e) = InSaved (place_behind e)
place_behind_part (AtOnce cursor) = Fields

-- an answer may end everywhere but inside a reply
abbrev pub answer_may_end : ExtendedAnswerPlace → Bool
answer_may_end (InReply n) = false
answer_may_end place = true

-- the reason of a byte after the row of a cursor, by the bytes between: as in the profile, and after an escape that
-- begins no command of a saved screen
abbrev pub head_reason : List ℕ → Reason
head_reason [] = BadAddress
head_reason (column ∷ []) = BadAid
head_reason (column ∷ escape ∷ more) = SaveRestore

-- the reason of a byte at the beginning of an answer; with 00 a reply begins
abbrev pub beginning_reason : List ℕ → Reason
beginning_reason [] = BadAddress
beginning_reason (row ∷ begun) = if row == 0 then StructuredField else head_reason begun

-- the reason of a byte that can't follow the bytes of a part so far
abbrev pub answer_reason : ExtendedAnswerPlace → List ℕ → ℕ → Reason
answer_reason Beginning begun b = beginning_reason begun
answer_reason Fields begun b = part_reason answers.Fields begun b
answer_reason (InReply n) begun b = StructuredField
answer_reason Replied begun b = StructuredField
answer_reason (InSaved at) begun b = extended_reason at begun b

-- the code of what a live host's station sends: the answers of the profile, and what is told at once
abbrev pub extended_answer_rules : Rules ExtendedAnswerPlace ExtendedAnswerPart
extended_answer_rules = record {
  first = Beginning;
  after = place_behind_part;
  is_unit = IsAnswerPart;
  may_follow = answer_follows;
  may_end = answer_may_end;
  spelling = extended_part_spelling;
  reason = answer_reason;
}
