-- What a script that gives no moves is refused for.

use Rattle.std.specs.Prelude.{◌≡◌, ℕ, List, ◌∷◌, ◌++◌, ◌⊎◌, Bool, ◌==◌, not, codes, Result, Ok, Err}
use Rattle.std.specs.List.{list_all}
use Rattle.std.specs.Str.{IsUtf8}
use Rattle.std.specs.Str.Lines.{lines}
use Rattle.ws_record.specs.declared.opcode.Opcode.{Opcode}
use Rattle.ws_session.specs.declared.world.Move.{Move}
use Rattle.ws_printing.specs.declared.script.ScriptFault.{ScriptFault}
use Rattle.ws_printing.specs.declared.script.ScriptFault.TheVariants.{Line, Memory}
use Rattle.ws_printing.specs.script.Script.{MeansMoves, AreLines, IsSendOpcode, IsFirstBad}

-- the words of a record to be sent are good up to its body
abbrev pub IsSendBegun : List ℕ → Type 0
IsSendBegun words = (number : List ℕ) × (hex : List ℕ) × (opcode : Opcode) × (words ≡ number ++ codes " " ++ hex)
    × IsSendOpcode number opcode

-- a line that sends one is
abbrev pub IsSendLine : List ℕ → Type 0
IsSendLine line = (words : List ℕ) × (line ≡ codes "send " ++ words) × IsSendBegun words

-- as far as it was read, a line is good: it is a whole one, or a `send` up to its body
abbrev pub IsGoodSoFar : List ℕ → Type 0
IsGoodSoFar line = ((moves : List Move) × MeansMoves line moves) ⊎ IsSendLine line

-- as far as it was read, a script is good
pub record IsReadSoFar (text : List ℕ) : Type 0 where
  pub before : List (List ℕ)
  pub line : List ℕ
  pub after : List (List ℕ)
  pub split : lines text ≡ before ++ line ∷ after
  pub moves : List Move
  pub good : AreLines before moves
  pub is_text : IsUtf8 line
  pub begun : IsGoodSoFar line

-- why a script gives no moves: its first bad line, or want of memory in good text
abbrev pub IsScriptFault : List ℕ → ScriptFault → Type 0
IsScriptFault text (Line number) = IsFirstBad text number
IsScriptFault text Memory = IsReadSoFar text

-- why a line, or a part of it, isn't read: it is the bad one, and nothing is what it should be; or a growth was
-- refused, and it is good up to there
abbrev pub IsLineFault : {X : Type 0} → (X → Type 0) → Type 0 → ScriptFault → Type 0
IsLineFault {X} IsRead IsGood (Line at) = (at ≡ 1) × ((x : X) → IsRead x → ⊥)
IsLineFault IsRead IsGood Memory = IsGood

-- a line's moves are added to those before it; or it isn't read
abbrev pub AreAdded : (List Move → Type 0) → Type 0 → List Move → List Move → Result (Unit {0}) ScriptFault → Type 0
AreAdded IsRead IsGood old new (Ok done) = (given : List Move) × IsRead given × (new ≡ old ++ given)
AreAdded IsRead IsGood old new (Err fault) = IsLineFault IsRead IsGood fault

-- no byte of a word is a blank
abbrev pub has_no_blank : List ℕ → Bool
has_no_blank word = list_all (λ b. not (b == 32)) word

-- a line is no comment
abbrev pub IsNoComment : List ℕ → Type 0
IsNoComment line = (text : List ℕ) → line ≡ codes "#" ++ text → ⊥
