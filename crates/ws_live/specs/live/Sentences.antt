-- What a refusal's reason says, on lines after that of the refusal.

use Rattle.std.specs.Prelude.{ℕ, List, [], ◌++◌, codes}
use Rattle.ws_code.specs.Reason.{text_of}
use Rattle.ws_code.specs.declared.reason.Reason.{Reason}
use Rattle.ws_code.specs.declared.reason.Reason.TheVariants.{StructuredField, AlternateSize, SaveRestore, Roll, ErrorCode}
use Rattle.ws_code.specs.declared.reason.Reason.TheVariants.{ReadScreen, ReadImmediate}

-- what a reason says, after two blanks
abbrev pub sentence_line : Reason → List ℕ
sentence_line reason = codes "  " ++ text_of reason ++ codes "\n"

-- that a session goes on without `--strict`
abbrev pub goes_on_line : List ℕ
goes_on_line = codes "  without --strict the session goes on\n"

-- what is said of a part of the data stream that live stations take, or answer and pass over (SC30-3533)
abbrev pub without_strict : Reason → List ℕ
without_strict StructuredField = goes_on_line
without_strict AlternateSize = goes_on_line
without_strict SaveRestore = goes_on_line
without_strict Roll = goes_on_line
without_strict ErrorCode = goes_on_line
without_strict ReadScreen = goes_on_line
without_strict ReadImmediate = goes_on_line
without_strict reason = []

-- what is said of a reason for which a station's session ended
abbrev pub station_sentences : Reason → List ℕ
station_sentences reason = sentence_line reason ++ without_strict reason
