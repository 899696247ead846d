-- Scripts of live sessions: a line each, with the lines that belong to it, whose meaning is that of the end that it is
-- for.

use Rattle.std.specs.Prelude.{◌≡◌, ℕ, ◌+◌, ◌-◌, ◌^◌, ◌≤◌, List, [], ◌∷◌, ◌++◌, ◌⊎◌, length, min, Bool, true, false}
use Rattle.std.specs.Prelude.{◌==◌, ◌&&◌, String, Option, Some}
use Rattle.std.specs.Global.{Global}
use Rattle.std.specs.Str.Lines.{lines}
use Rattle.ws_script.specs.declared.lines.live_line.NumberedLine.{NumberedLine}
use Rattle.ws_printing.specs.declared.script.ScriptFault.{ScriptFault}
use Rattle.ws_printing.specs.declared.script.ScriptFault.TheVariants.{Line, Memory}

-- the line begins with two blanks
abbrev pub is_indented : List ℕ → Bool
is_indented [] = false
is_indented (one ∷ []) = false
is_indented (one ∷ two ∷ text) = (one == 32) && (two == 32)

-- all of the lines begin with two blanks
abbrev pub AreIndented : List (List ℕ) → Type 0
AreIndented [] = Unit {0}
AreIndented (line ∷ more) = (is_indented line ≡ true) × AreIndented more

-- the first of the lines doesn't begin with two blanks, or there is none
abbrev pub BeginsFlush : List (List ℕ) → Type 0
BeginsFlush [] = Unit {0}
BeginsFlush (line ∷ more) = is_indented line ≡ false

-- a text that is cut in two: the front, of so many lines, and what is after it
pub record TextCut : Type 0 where
  pub inside : List ℕ
  pub count : ℕ
  pub behind : List ℕ

-- this front, of so many lines, and this after it
abbrev pub text_cut : List ℕ → ℕ → List ℕ → TextCut
text_cut inside count behind = record { inside = inside; count = count; behind = behind }

-- the front of a text whose lines begin with two blanks, the number of these, and what is after it, of which the first
-- line doesn't
pub record HasInside (text : List ℕ) (cut : TextCut) : Type 0 where
  pub whole : text ≡ cut.inside ++ cut.behind
  pub split : lines text ≡ lines cut.inside ++ lines cut.behind
  pub indented : AreIndented (lines cut.inside)
  pub flush : BeginsFlush (lines cut.behind)
  pub counted : cut.count ≡ length (lines cut.inside)
  pub few : cut.count + length cut.behind ≤ length text

-- as far as it was read, a line is good: it is a whole one, or one up to what takes memory
abbrev pub IsLineSoFar : {L : Type 0} → (List ℕ → L → Type 0) → (List ℕ → Type 0) → List ℕ → Type 0
IsLineSoFar {L} Means IsBegun line = ((read : L) × Means line read) ⊎ IsBegun line

-- the lines of a kind of script
pub record LineLanguage (L : Type 0) : Type 1 where
  -- a line, and those that belong to it, mean this
  pub means : List ℕ → List (List ℕ) → L → Type 0
  -- a line is good up to what takes memory
  pub begins : List ℕ → Type 0
  -- lines may belong to a line like this
  pub opener : List ℕ → Type 0
  -- a line that means nothing with those that belong to it is bad here, counted from 1 for itself
  pub bad_at : List ℕ → List (List ℕ) → ℕ → Type 0
  -- what stands for a line that is bad for this cause
  pub bad_line : String Global → L
  -- what is carried out while a line is waited for, where something has come
  pub meanwhile : Option L

module _ {L : Type 0} (language : LineLanguage L) where
  -- a line, those that belong to it, which stand after one that lines may belong to, and those after them
  pub record IsBlock (line : List ℕ) (inside after : List (List ℕ)) : Type 0 where
    pub indented : AreIndented inside
    pub opened : (inside ≡ []) ⊎ language.opener line
    pub whole : language.opener line → BeginsFlush after

  -- of a line and the text after it: the front of that text whose lines belong to the line, the number of these, and
  -- what is after them
  pub record HasBlock (line text : List ℕ) (cut : TextCut) : Type 0 where
    pub whole : text ≡ cut.inside ++ cut.behind
    pub split : lines text ≡ lines cut.inside ++ lines cut.behind
    pub block : IsBlock line (lines cut.inside) (lines cut.behind)
    pub counted : cut.count ≡ length (lines cut.inside)
    pub few : cut.count + length cut.behind ≤ length text

  -- each of the first lines means one of these, in order, with those that belong to it, and the rest is after them; a
  -- line's number is 1 more than how many are before it, which for the first of these are so many
  abbrev pub MeanThese : ℕ → List (List ℕ) → List (NumberedLine L) → List (List ℕ) → Type 0
  MeanThese before all [] rest = all ≡ rest
  MeanThese before all (first ∷ read) rest = (line : List ℕ) × (inside : List (List ℕ)) × (after : List (List ℕ))
      × (all ≡ line ∷ (inside ++ after)) × IsBlock line inside after × language.means line inside first.line
      × (first.number ≡ Some (before + 1)) × MeanThese (before + 1 + length inside) after read rest

  -- the lines of a text mean these, in order, each with those after two blanks that belong to it
  abbrev pub AreLiveLines : List ℕ → List (NumberedLine L) → Type 0
  AreLiveLines text read = MeanThese 0 (lines text) read []

  -- a line with those that belong to it means nothing, and this one is bad, counted from 1
  abbrev pub IsBadBlock : List ℕ → List (List ℕ) → ℕ → Type 0
  IsBadBlock line inside at = ((read : L) → language.means line inside read → ⊥) × language.bad_at line inside at

  -- the first bad line of a script, counted from 1 as far as 64 bits count: it is one, or belongs to one, that means
  -- nothing
  pub record IsFirstBadLiveLine (text : List ℕ) (number : ℕ) : Type 0 where
    pub before : List (List ℕ)
    pub line : List ℕ
    pub inside : List (List ℕ)
    pub after : List (List ℕ)
    pub split : lines text ≡ before ++ (line ∷ (inside ++ after))
    pub read : List (NumberedLine L)
    pub good : MeanThese 0 (lines text) read (line ∷ (inside ++ after))
    pub block : IsBlock line inside after
    pub at : ℕ
    pub bad : IsBadBlock line inside at
    pub counted : number ≡ min (length before + at) (2 ^ 64 - 1)

  -- as far as it was read, a line is good: it is a whole one with those that belong to it; or none belongs to it, and
  -- it is one up to what takes memory
  abbrev pub IsGoodBlockSoFar : List ℕ → List (List ℕ) → Type 0
  IsGoodBlockSoFar line inside = ((read : L) × language.means line inside read)
      ⊎ ((inside ≡ []) × language.begins line)

  -- why a line isn't read: with those that belong to it it means nothing, and this one is bad, counted from 1; or it is
  -- good as far as it was read, and a growth was refused
  abbrev pub IsBlockFault : List ℕ → List (List ℕ) → ScriptFault → Type 0
  IsBlockFault line inside (Line at) = IsBadBlock line inside at
  IsBlockFault line inside Memory = IsGoodBlockSoFar line inside

  -- as far as it was read, a script is good: after good lines stands one that is good so far, with all that belong to
  -- it
  pub record IsLiveScriptSoFar (text : List ℕ) : Type 0 where
    pub line : List ℕ
    pub inside : List (List ℕ)
    pub after : List (List ℕ)
    pub read : List (NumberedLine L)
    pub good : MeanThese 0 (lines text) read (line ∷ (inside ++ after))
    pub block : IsBlock line inside after
    pub so_far : IsGoodBlockSoFar line inside

  -- why a script isn't read: its first bad line, or it is good as far as it was read, and a growth was refused
  abbrev pub IsReadingFault : List ℕ → ScriptFault → Type 0
  IsReadingFault text (Line number) = IsFirstBadLiveLine text number
  IsReadingFault text Memory = IsLiveScriptSoFar text
