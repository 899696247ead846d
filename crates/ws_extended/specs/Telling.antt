-- What a station tells at once, where a record asks for it (SC30-3533, commands: 5250 Query, Save Screen, Read Screen,
-- Read Immediate, Read Modified Immediate Alternate): the body of one record.
use Rattle.std.specs.Prelude.{ℕ, List, [], ◌∷◌, ◌++◌}
use Rattle.ws_code.specs.Code.{spelling_of}
use Rattle.ws_nego.specs.declared.terminal.TerminalType.{TerminalType}
use Rattle.ws_stream.specs.Elements.{row_and_column}
use Rattle.ws_screen.specs.declared.read_kind.ReadKind.TheVariants.{Input, MdtAlternate}
use Rattle.ws_screen.specs.ScreenParts.{ScreenParts}
use Rattle.ws_keys.specs.Contents.{answer_bytes}
use Rattle.ws_extended.specs.ErrorLine.{error_row}
use Rattle.ws_extended.specs.ExtendedElements.{extended_rules}
use Rattle.ws_extended.specs.ExtendedStates.{ExtendedState, saved_screen, told_screen}
use Rattle.ws_extended.specs.QueryReply.{query_reply}
use Rattle.ws_extended.specs.declared.ask.Ask.{Ask}
use Rattle.ws_extended.specs.declared.ask.Ask.TheVariants.{Query, SaveScreen, ReadScreen, ReadImmediate}
use Rattle.ws_extended.specs.declared.ask.Ask.TheVariants.{ReadImmediateAlternate}

-- 00, which stands in the place of an AID where no key was pressed
abbrev pub NO_KEY : ℕ
NO_KEY = 0

-- what is told first of a screen: row and column of its cursor, and no key
abbrev pub told_head : ScreenParts → List ℕ
told_head s = row_and_column s.cursor ++ NO_KEY ∷ []

-- what is told of a screen with such an error line: an immediate read tells what the read of its name does, and Read
-- Screen all cells
abbrev pub told_of : Ask → TerminalType → ℕ → ScreenParts → List ℕ
told_of Query terminal row s = query_reply terminal
told_of SaveScreen terminal row s = spelling_of extended_rules (saved_screen row s)
told_of ReadScreen terminal row s = told_head s ++ s.cells
told_of ReadImmediate terminal row s = answer_bytes Input s NO_KEY
told_of ReadImmediateAlternate terminal row s = answer_bytes MdtAlternate s NO_KEY

-- what is told of a display: of the screen that the key Reset would leave
abbrev pub told_bytes : Ask → TerminalType → ExtendedState → List ℕ
told_bytes ask terminal state = told_of ask terminal (error_row state.history) (told_screen state)
