-- What is told at once, part by part: the bodies of a live host's station that `told_of` spells.
use Rattle.std.specs.Prelude.{ℕ, ◌≡◌, List, [], ◌∷◌, ◌++◌, ◌⊎◌, length, map, drop}
use Rattle.ws_nego.specs.declared.terminal.TerminalType.{TerminalType}
use Rattle.ws_stream.specs.declared.answer_part.AnswerPart.TheVariants.{Byte}
use Rattle.ws_stream.specs.declared.answer_place.AnswerPlace.{AnswerPlace}
use Rattle.ws_stream.specs.declared.answer_place.AnswerPlace.TheVariants as answers
use Rattle.ws_stream.specs.declared.command_code.TheConstants.{ESCAPE, RESTORE_SCREEN}
use Rattle.ws_screen.specs.declared.read_kind.ReadKind.TheVariants.{Input, MdtAlternate}
use Rattle.ws_screen.specs.ScreenParts.{ScreenParts}
use Rattle.ws_keys.specs.Contents.{data_parts}
use Rattle.ws_extended.specs.ExtendedStates.{saved_screen}
use Rattle.ws_extended.specs.QueryReply.{capabilities, controller, device, equipment}
use Rattle.ws_extended.specs.declared.ask.Ask.{Ask}
use Rattle.ws_extended.specs.declared.ask.Ask.TheVariants.{Query, SaveScreen, ReadScreen, ReadImmediate}
use Rattle.ws_extended.specs.declared.ask.Ask.TheVariants.{ReadImmediateAlternate}
use Rattle.ws_extended.specs.declared.extended_answer_part.ExtendedAnswerPart.{ExtendedAnswerPart}
use Rattle.ws_extended.specs.declared.extended_answer_part.ExtendedAnswerPart.TheVariants.{Profile, QueryReply, Reply}
use Rattle.ws_extended.specs.declared.extended_answer_part.ExtendedAnswerPart.TheVariants.{Saved, Of, AtOnce}
use Rattle.ws_extended.specs.declared.extended_answer_place.ExtendedAnswerPlace.{ExtendedAnswerPlace}
use Rattle.ws_extended.specs.declared.extended_answer_place.ExtendedAnswerPlace.TheVariants.{Beginning, Fields}

-- the parts that the bytes of a reply are, each with how many follow
abbrev pub reply_parts : List ℕ → List ExtendedAnswerPart
reply_parts [] = []
reply_parts (byte ∷ bytes) = Reply (length bytes) byte ∷ reply_parts bytes

-- the bytes of a reply after its front
abbrev pub reply_tail : TerminalType → List ℕ
reply_tail terminal = controller ++ (device terminal ++ (equipment ++ capabilities terminal))

-- the parts of what is told; a saved screen's first two elements are its front
abbrev pub told_parts : Ask → TerminalType → ℕ → ScreenParts → List ExtendedAnswerPart
told_parts Query terminal row s = QueryReply ∷ reply_parts (reply_tail terminal)
told_parts SaveScreen terminal row s = Saved ∷ map Of (drop 2 (saved_screen row s))
told_parts ReadScreen terminal row s = AtOnce s.cursor ∷ map Profile (map Byte s.cells)
told_parts ReadImmediate terminal row s = AtOnce s.cursor ∷ map Profile (data_parts Input s)
told_parts ReadImmediateAlternate terminal row s = AtOnce s.cursor ∷ map Profile (data_parts MdtAlternate s)

-- a place in the profile's answers as one in those of live hosts' stations
abbrev pub answer_place : AnswerPlace → ExtendedAnswerPlace
answer_place answers.Beginning = Beginning
answer_place answers.Fields = Fields

-- After these bytes one of three begins with the byte: a reply with a 00, what is told at once with one after a
-- cursor, a saved screen with an escape after a Restore Screen.
abbrev pub BeginsTold : AnswerPlace → List ℕ → ℕ → Type 0
BeginsTold place bytes b = (place ≡ answers.Beginning)
    × (((bytes ≡ []) × (b ≡ 0)) ⊎ (((length bytes ≡ 2) × (b ≡ 0))
    ⊎ ((bytes ≡ ESCAPE ∷ RESTORE_SCREEN ∷ []) × (b ≡ ESCAPE))))
