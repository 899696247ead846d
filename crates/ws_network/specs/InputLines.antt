-- The lines of standard input, and why there is none more; and the words that can be typed besides.

use Rattle.std.specs.Prelude.{◌≡◌, ℕ, ◌+◌, ◌-◌, ◌^◌, List, [], ◌∷◌, ◌⊎◌, Bool, true, false, String, string_bytes, min}
use Rattle.std.specs.Prelude.{MatchOption, None, Option, Some, codes}
use Rattle.std.specs.Global.{Global}
use Rattle.std_io.specs.declared.io.kind.ErrorKind.{ErrorKind}
use Rattle.std_io.specs.declared.io.kind.ErrorKind.TheVariants.{OutOfMemory}
use Rattle.ws_script.specs.cause.ToldCauses.{TellsCause}
use Rattle.ws_script.specs.lines.LiveScript.{IsBadBlock, LineLanguage, is_indented}
use Rattle.ws_script.specs.declared.asked.fault.RunFault.TheVariants.{Read, Memory}
use Rattle.ws_script.specs.declared.asked.fault.ToldFault.{ToldFault}
use Rattle.ws_script.specs.declared.asked.fault.ToldFault.TheVariants.{Run, Line}
use Rattle.ws_script.specs.declared.cause.vocabulary.Vocabulary.{Vocabulary}
use Rattle.ws_network.specs.declared.input_lines.Next.{Next}
use Rattle.ws_network.specs.declared.input_lines.Next.TheVariants as comes
use Rattle.ws_network.specs.declared.input_lines.TypedWord.{TypedWord}
use Rattle.ws_network.specs.declared.input_lines.TypedWord.TheVariants.{Help, Quit}

-- what is known of standard input: how many lines of it were taken, whether they are typed at a terminal, which was read
-- ahead, since it belongs to none before it, and whether there are no more
pub record InputState : Type 0 where
  pub taken : ℕ
  pub is_typed : Bool
  pub ahead : Option (List ℕ)
  pub is_over : Bool

-- no line was taken
abbrev pub untaken : Bool → InputState
untaken typed = record { taken = 0; is_typed = typed; ahead = None; is_over = false }

-- after the lines that belong to one the next is kept, which doesn't, if there is one
abbrev pub IsNextKept : InputState → Type 0
IsNextKept input = MatchOption input.ahead (input.is_over ≡ true) (λ line. is_indented line ≡ false)

-- the words that stand for no line, where lines are typed
abbrev pub typed_words : List (List ℕ × TypedWord)
typed_words = (codes "help", Help) ∷ (codes "quit", Quit) ∷ []

-- why no line was to be had, by the kind of the error
abbrev pub unread_fault : ErrorKind → ToldFault
unread_fault OutOfMemory = Run Memory
unread_fault kind = Run Read

-- standard input can't be read, or a growth was refused
abbrev pub IsUnreadFault : ToldFault → Type 0
IsUnreadFault told = (told ≡ Run Read) ⊎ (told ≡ Run Memory)

-- Why there is no line more: standard input can't be read, a growth was refused, or a line is bad, counted from 1. A
-- session that tells when it is ready goes on after a bad line.
abbrev pub IsInputFault : Bool → ToldFault → Type 0
IsInputFault ready told = IsUnreadFault told
    ⊎ ((ready ≡ false) × ((number : ℕ) × (cause : String Global) × (told ≡ Line number cause)))

module _ {L : Type 0} (language : LineLanguage L) where
  -- a line that was read, and those that belong to it, mean this
  abbrev pub IsMeant : L → Type 0
  IsMeant read = (line : List ℕ) × (inside : List (List ℕ)) × language.means line inside read

  module _ (vocabulary : Vocabulary) where
    -- A line with those that belong to it means nothing, and this tells why, of the bad one among them, counted from 1.
    abbrev pub TellsWhyBad : ℕ → List ℕ → Type 0
    TellsWhyBad at text = (line : List ℕ) × (inside : List (List ℕ)) × IsBadBlock language line inside at
        × TellsCause vocabulary (line ∷ inside) at text

    -- What comes of a line that was read: what it means, or where a session tells when it is ready what stands for a bad
    -- line, with its cause.
    abbrev pub IsNextLine : Bool → L → Type 0
    IsNextLine ready next = IsMeant next ⊎ ((ready ≡ true) × ((cause : String Global)
        × (next ≡ language.bad_line cause) × ((at : ℕ) × TellsWhyBad at (string_bytes cause))))

    -- a line of standard input that is carried out: that, or where a session doesn't tell when it is ready, so that lines
    -- may be typed, the line that takes what has come before one is
    abbrev pub IsInputLine : Bool → L → Type 0
    IsInputLine ready line = IsNextLine ready line ⊎ ((ready ≡ false) × (language.meanwhile ≡ Some line))

    -- Where a line is told as bad after so many, it means nothing with those that belong to it, and the number is that
    -- of the bad one, as far as 64 bits count.
    abbrev pub TellsBadLine : ℕ → ToldFault → Type 0
    TellsBadLine before (Line number cause) = (at : ℕ) × TellsWhyBad at (string_bytes cause)
        × (number ≡ min (before + at) (2 ^ 64 - 1))
    TellsBadLine before told = Unit {0}

    -- What comes of standard input: a line that was read; or where lines are typed alone, a word, or a bad line, which
    -- is told by its number and its cause, as it would be where it ends a session.
    abbrev pub IsNextInput : Bool → InputState → Next L → Type 0
    IsNextInput ready input (comes.Line line) = IsNextLine ready line
    IsNextInput ready input (comes.Bad number cause) = (input.is_typed ≡ true) × (ready ≡ false)
        × TellsBadLine input.taken (Line number cause)
    IsNextInput ready input (comes.Word word) = input.is_typed ≡ true
    IsNextInput ready input comes.End = Unit {0}
