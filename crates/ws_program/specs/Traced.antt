-- A recording as pieces with their times, and what is printed of pieces.

use Rattle.std.specs.Prelude.{◌≡◌, ℕ, ◌+◌, ◌-◌, ◌*◌, ◌^◌, List, [], ◌∷◌, ◌++◌, Bool, Result, min, Ok, ◌⊎◌}
use Rattle.std.specs.Str.Lines.{lines}
use Rattle.ws_script.specs.declared.asked.fault.RunFault.{RunFault}
use Rattle.ws_script.specs.declared.asked.fault.RunFault.TheVariants as run
use Rattle.ws_printing.specs.declared.script.ScriptFault.{ScriptFault}
use Rattle.ws_printing.specs.declared.script.ScriptFault.TheVariants.{Line, Memory}
use Rattle.ws_text.specs.Printed.{in_whole}
use Rattle.ws_trace.specs.Dialogues.{IsDialogue, IsTooLong}
use Rattle.ws_trace.specs.DialogueText.{dialogue_text}
use Rattle.ws_trace.specs.TraceText.{is_unrefused}
use Rattle.ws_trace.specs.declared.dialogue.Dialogue.{Dialogue}
use Rattle.ws_trace.specs.declared.piece.Piece.{Piece}
use Rattle.ws_trace.specs.declared.piece.TracedEnd.{TracedEnd}
use Rattle.ws_trace.specs.declared.piece.TracedEnd.TheVariants as traced
use Rattle.ws_trace.specs.declared.trace_text.TraceForm.{TraceForm}
use Rattle.ws_program.specs.Actions.{Action}
use Rattle.ws_program.specs.Recorded.{IsFirstOther, IsPieceLine}
use Rattle.ws_program.specs.declared.words.command_line.RecordedEnd.{RecordedEnd}
use Rattle.ws_program.specs.declared.words.command_line.RecordedEnd.TheVariants.{Host, Station}

-- the number that goes on with these digits; it stays at the highest one of 64 bits
abbrev pub number_with : ℕ → List ℕ → ℕ
number_with n [] = n
number_with n (digit ∷ digits) = number_with (min (n * 10 + (digit - 48)) (2 ^ 64 - 1)) digits

-- an end of a recording, as one whose stream is traced
abbrev pub traced_end : RecordedEnd → TracedEnd
traced_end Host = traced.Host
traced_end Station = traced.Station

-- the piece that a line of a recording has
pub record IsPieceOf (line : List ℕ) (piece : Piece) : Type 0 where
  pub sender : RecordedEnd
  pub said : IsPieceLine line sender piece.bytes.items
  pub milliseconds : piece.milliseconds ≡ number_with 0 said.milliseconds
  pub is_sender : piece.sender ≡ traced_end sender

-- the pieces of lines, one after another
abbrev pub AreRecorded : List (List ℕ) → List Piece → Type 0
AreRecorded [] [] = Unit {0}
AreRecorded (line ∷ more) (piece ∷ pieces) = IsPieceOf line piece × AreRecorded more pieces
AreRecorded more pieces = ⊥

-- why a text gives no pieces: a line is none of a recording, or a growth was refused
abbrev pub IsPiecesFault : List ℕ → ScriptFault → Type 0
IsPiecesFault text (Line number) = IsFirstOther text number
IsPiecesFault text Memory = Unit {0}

-- why a recording isn't traced; nothing is written then
abbrev pub IsUntraced : List ℕ → RunFault → Type 0
IsUntraced input (run.Line number) = IsFirstOther input number
IsUntraced input fault = (fault ≡ run.Memory)
    ⊎ ((fault ≡ run.Failed) × ((pieces : List Piece) × AreRecorded (lines input) pieces × IsTooLong pieces))

-- the text of the dialogue of pieces in a form, and whether nothing of it is refused
abbrev pub IsDialogueText : TraceForm → List Piece → List ℕ → Result Bool RunFault → Type 0
IsDialogueText form pieces text outcome = (dialogue : Dialogue) × IsDialogue pieces dialogue
    × (text ≡ dialogue_text form pieces dialogue) × (outcome ≡ Ok (is_unrefused dialogue))

-- the dialogue of pieces is printed in a form
abbrev pub dialogue_action : TraceForm → List Piece → Action Bool RunFault
dialogue_action form pieces = record {
  Refuses = λ fault. (fault ≡ run.Memory) ⊎ ((fault ≡ run.Failed) × IsTooLong pieces);
  prints = in_whole run.Write (IsDialogueText form pieces);
}

-- the dialogue of a recording's pieces is printed in a form
abbrev pub trace_action : TraceForm → List ℕ → Action Bool RunFault
trace_action form input = record {
  Refuses = IsUntraced input;
  prints = in_whole run.Write (λ text outcome. (pieces : List Piece) × AreRecorded (lines input) pieces
      × IsDialogueText form pieces text outcome);
}
