-- What the machine of `ExtendedAnswers` keeps of an unfinished part.
use Rattle.std.specs.Prelude.{ℕ, List, [], ◌∷◌, Bool, true, ◌&&◌, ◌||◌, nat_le, nat_lt, take, if◌then◌else◌}
use Rattle.ws_code.specs.Run.{Reading}
use Rattle.ws_code.specs.declared.address.TheConstants.{ROWS}
use Rattle.ws_stream.specs.Elements.{row_and_column}
use Rattle.ws_stream.specs.UnfinishedElement.{unfinished_of}
use Rattle.ws_stream.specs.declared.command_code.TheConstants.{ESCAPE, RESTORE_SCREEN}
use Rattle.ws_stream.specs.declared.order_code.TheConstants.{SET_BUFFER_ADDRESS}
use Rattle.ws_extended.specs.ExtendedMachine.{element_begun_in}
use Rattle.ws_extended.specs.QueryReply.{reply_head}
use Rattle.ws_extended.specs.declared.extended_answer_place.ExtendedAnswerPlace.{ExtendedAnswerPlace}
use Rattle.ws_extended.specs.declared.extended_answer_place.ExtendedAnswerPlace.TheVariants.{Beginning, Fields, InReply}
use Rattle.ws_extended.specs.declared.extended_answer_place.ExtendedAnswerPlace.TheVariants.{Replied, InSaved}
use Rattle.ws_extended.specs.declared.extended_answers.waits.Waits.{Waits}
use Rattle.ws_extended.specs.declared.extended_answers.waits.Waits.TheVariants.{HeadRow, HeadColumn, HeadLast, Front}
use Rattle.ws_extended.specs.declared.extended_answers.waits.Waits.TheVariants.{SavedCode, Part, AtRow, AtColumn}
use Rattle.ws_extended.specs.declared.extended_answers.waits.Waits.TheVariants.{ReplyByte, InElement}
use Rattle.ws_extended.specs.declared.extended_commands.ExtendedCommands.{ExtendedCommands}
use Rattle.ws_extended.specs.declared.extended_place.ExtendedPlace.{ExtendedPlace}
use Rattle.ws_extended.specs.declared.extended_place.ExtendedPlace.TheVariants.{InProfile}
use Rattle.ws_stream.specs.declared.place.Place.TheVariants.{CommandsOnly}

-- the place at which a reply begins: after another one, or first
abbrev pub reply_place : Bool → ExtendedAnswerPlace
reply_place again = if again then Replied else Beginning

-- where the machine stands, by what is waited for and by where that of a saved screen stands
abbrev pub waits_at : Waits → ExtendedPlace → ExtendedAnswerPlace
waits_at HeadRow at = Beginning
waits_at (HeadColumn row) at = Beginning
waits_at (HeadLast cursor) at = Beginning
waits_at (Front again count) at = reply_place again
waits_at SavedCode at = Beginning
waits_at Part at = Fields
waits_at AtRow at = Fields
waits_at (AtColumn row) at = Fields
waits_at (ReplyByte left) at = InReply left
waits_at InElement at = InSaved at

-- the bytes of the part so far, and those that the machine of a saved screen has
abbrev pub waits_behind : Waits → List ℕ → List ℕ
waits_behind HeadRow bytes = []
waits_behind (HeadColumn row) bytes = row ∷ []
waits_behind (HeadLast cursor) bytes = row_and_column cursor
waits_behind (Front again count) bytes = take count reply_head
waits_behind SavedCode bytes = ESCAPE ∷ RESTORE_SCREEN ∷ ESCAPE ∷ []
waits_behind Part bytes = []
waits_behind AtRow bytes = SET_BUFFER_ADDRESS ∷ []
waits_behind (AtColumn row) bytes = SET_BUFFER_ADDRESS ∷ row ∷ []
waits_behind (ReplyByte left) bytes = []
waits_behind InElement bytes = bytes

-- the bytes of an element so far
abbrev pub element_begun : ExtendedCommands → List ℕ
element_begun m = element_begun_in m.phase (unfinished_of m.inner)

-- where the part stands that is read, and its bytes so far
abbrev pub part_reading : Waits → ExtendedCommands → Reading ExtendedAnswerPlace
part_reading waits elements =
    record { place = waits_at waits elements.place; begun = waits_behind waits (element_begun elements) }

-- where an element of a saved screen is read, where one is
abbrev pub element_place : ExtendedAnswerPlace → ExtendedPlace
element_place (InSaved at) = at
element_place place = InProfile CommandsOnly

-- the numbers in it are a row, and a place in a reply's front, which a first reply has left
abbrev pub is_waiting : Waits → Bool
is_waiting (HeadColumn row) = nat_le 1 row && nat_le row ROWS
is_waiting (Front again count) = nat_lt count 8 && (again || nat_le 1 count)
is_waiting waits = true
