-- What a live session prints, by its lines. What a line does at an end stands in ConnectText and ServeText.

use Rattle.std.specs.Prelude.{◌≡◌, ℕ, List, [], ◌∷◌, ◌++◌, ◌⊎◌, Bool, true, false, ◌&&◌, ◌||◌, not, codes}
use Rattle.std.specs.Prelude.{Option, None, Some, Result, Ok, Err, MatchResult}
use Rattle.std.specs.Fmt.{decimal}
use Rattle.ws_code.specs.declared.fault.Fault.{Fault}
use Rattle.ws_code.specs.declared.fault.Fault.TheVariants.{Write}
use Rattle.ws_text.specs.Printed.{Printing}
use Rattle.ws_live.specs.declared.live.AfterUnwell.{AfterUnwell}
use Rattle.ws_live.specs.declared.live.AfterUnwell.TheVariants.{GoOn, Stop}
use Rattle.ws_live.specs.declared.live.Closing.{Closing}
use Rattle.ws_live.specs.declared.live.Closing.TheVariants.{Nothing, Done, Declined, Late, Ended, Stopped, Closed}
use Rattle.ws_live.specs.declared.live.LineSettings.{LineSettings}
use Rattle.ws_live.specs.declared.live.Ran.{Ran}
use Rattle.ws_live.specs.declared.live.Telling.{Telling}
use Rattle.ws_printing.specs.declared.paint.Paint.{Paint}
use Rattle.ws_script.specs.declared.lines.live_line.NumberedLine.{NumberedLine}

-- the number of a script's line after what it tells, where one is told
abbrev pub line_behind : Option ℕ → List ℕ
line_behind None = []
line_behind (Some number) = codes " (line " ++ decimal number ++ codes ")"

-- what a line of this number closes with
abbrev pub closing_word : Option ℕ → Closing → List ℕ
closing_word number Nothing = []
closing_word number Done = []
closing_word number Declined = []
closing_word number Late = codes "late" ++ line_behind number ++ codes "\n"
closing_word number Ended = codes "ended" ++ line_behind number ++ codes "\n"
closing_word number Stopped = []
closing_word number Closed = []

-- what tells a program that a line is carried out
abbrev pub ready_word : Bool → Closing → List ℕ
ready_word false closing = []
ready_word true Nothing = []
ready_word true Stopped = []
ready_word true closing = codes "ok\n"

-- what ends the output of a line of this number: how its wait ended, and `ok` where that was asked for
abbrev pub closing_text : Bool → Option ℕ → Closing → List ℕ
closing_text ready number closing = closing_word number closing ++ ready_word ready closing

-- the line went well: it was in time, the other side was there, and nothing was refused
abbrev pub is_well : Closing → Bool
is_well Nothing = true
is_well Done = true
is_well Closed = true
is_well closing = false

-- the line stops the session: a byte was refused, or it closes the connection
abbrev pub stops : Closing → Bool
stops Stopped = true
stops Closed = true
stops closing = false

-- the line ends the session: it stops it, or didn't go well where that is to stop it
abbrev pub ends_session : AfterUnwell → Closing → Bool
ends_session GoOn closing = stops closing
ends_session Stop closing = stops closing || not (is_well closing)

-- what a run has come to before its first line: all well, and not over
abbrev pub ran_none : Ran
ran_none = record { all_well = true; is_over = false }

-- what a run has come to by one line that closes in this way
abbrev pub ran_by : AfterUnwell → Closing → Ran
ran_by after closing = record { all_well = is_well closing; is_over = ends_session after closing }

-- what two runs have come to, one after the other
abbrev pub ran_and : Ran → Ran → Ran
ran_and a b = record { all_well = a.all_well && b.all_well; is_over = b.is_over }

-- screens are printed in this paint, and the line has this number, if it has one
abbrev pub telling_by : Paint → Option ℕ → Telling
telling_by paint number = record { paint = paint; line = number }

-- what is told of a line that is bad for this cause
abbrev pub bad_text : List ℕ → List ℕ
bad_text cause = codes "bad line: " ++ cause ++ codes "\n"

-- how such a line closes: as one at which something was refused
abbrev pub bad_outcome : Result Closing Fault
bad_outcome = Ok Declined

-- what a line came to: how it closed, or the fault that ended it, and what it printed
pub record LineResult : Type 0 where
  pub outcome : Result Closing Fault
  pub text : List ℕ

-- the result of a line with this outcome and this text
abbrev pub line_result : Result Closing Fault → List ℕ → LineResult
line_result outcome text = record { outcome = outcome; text = text }

-- an account of what was carried out: whether all went well, and all that was printed
pub record Account : Type 0 where
  pub all_well : Bool
  pub text : List ℕ

-- the account of what went well or not, and printed this text
abbrev pub account : Bool → List ℕ → Account
account all_well text = record { all_well = all_well; text = text }

-- what lines do: each leads from there to there, and comes to this
abbrev pub LinesDo : Type 0 → Type 0 → Type 1
LinesDo L P = L → P → LineResult → P → Type 0

-- where a sink fails within what is printed: within what comes to a fault it is that fault, else a write that failed
abbrev pub IsCutIn : (LineResult → Type 0) → List ℕ → Fault → Type 0
IsCutIn Comes text fault = ((fault ≡ Write) × ((closing : Closing) × Comes (line_result (Ok closing) text)))
    ⊎ Comes (line_result (Err fault) text)

-- with what ends its output, where a line closed: it prints what is such a text before that
abbrev pub IsClosedText : (List ℕ → Type 0) → (Closing → List ℕ) → Result Closing Fault → List ℕ → Type 0
IsClosedText IsText ends (Ok closing) text = (told : List ℕ) × IsText told × (text ≡ told ++ ends closing)
IsClosedText IsText ends (Err fault) text = IsText text

-- what lines do, each told with its number, with what ends their output
abbrev pub WithClosing : {L P : Type 0} → (Telling → LinesDo L P) → LineSettings → LinesDo (NumberedLine L) P
WithClosing runs settings line from came to = IsClosedText
    (λ text. runs (telling_by settings.paint line.number) line.line from (line_result came.outcome text) to)
    (closing_text settings.ready line.number) came.outcome came.text

-- what a line comes to, and all that it prints
module _ {L P : Type 0} (runs : LinesDo L P) where
  -- what is printed by a line: its text, within which a sink may fail
  abbrev pub line_printing : P → L → P → Printing Closing Fault
  line_printing from line to = record {
    Ends = λ text outcome. runs line from (line_result outcome text) to;
    Cut = IsCutIn (λ came. runs line from came to);
  }

-- what lines come to one after another, where this follows one that doesn't go well
module _ {L P : Type 0} (after : AfterUnwell) (runs : LinesDo L P) where
  -- the lines were carried out one after another, none ended the session, and this is the account of them
  abbrev pub HaveRun : P → List L → Account → P → Type 0
  HaveRun from [] came to = (to ≡ from) × (came.all_well ≡ true) × (came.text ≡ [])
  HaveRun from (line ∷ more) came to = (closing : Closing) × (first : List ℕ) × (mid : P) × (rest : Account)
      × runs line from (line_result (Ok closing) first) mid × (ends_session after closing ≡ false)
      × HaveRun mid more rest to
      × (came.all_well ≡ is_well closing && rest.all_well) × (came.text ≡ first ++ rest.text)

  -- lines were carried out, the next came to this, and all of them printed this
  pub record IsStoppedAt (from : P) (lines : List L) (came : LineResult) (to : P) : Type 0 where
    pub before : List L
    pub line : L
    pub others : List L
    pub split : lines ≡ before ++ line ∷ others
    pub so_far : Account
    pub mid : P
    pub ran : HaveRun from before so_far mid
    pub last : List ℕ
    pub stopped : runs line mid (line_result came.outcome last) to
    pub all : came.text ≡ so_far.text ++ last

  -- lines were carried out, and the next ended the session: this is the account of them all
  pub record IsOverAt (from : P) (lines : List L) (came : Account) (to : P) : Type 0 where
    pub closing : Closing
    pub at : IsStoppedAt from lines (line_result (Ok closing) came.text) to
    pub over : ends_session after closing ≡ true
    pub well : came.all_well ≡ at.so_far.all_well && is_well closing

  -- lines were carried out, and this is the account of them: all of them, or those up to the first that ended the
  -- session, which is over then
  abbrev pub IsLiveText : P → List L → Bool → Account → P → Type 0
  IsLiveText from lines is_over came to = (HaveRun from lines came to × (is_over ≡ false))
      ⊎ (IsOverAt from lines came to × (is_over ≡ true))

  -- what is printed by lines that are carried out one after another, up to the first that ends the session: a sink
  -- may fail within the text of those so far
  abbrev pub lines_printing : P → List L → P → Printing Ran Fault
  lines_printing from lines to = record {
    Ends = λ text outcome. MatchResult outcome
        (λ ran. IsLiveText from lines ran.is_over (account ran.all_well text) to)
        (λ why. IsStoppedAt from lines (line_result (Err why) text) to);
    Cut = IsCutIn (λ came. IsStoppedAt from lines came to);
  }
