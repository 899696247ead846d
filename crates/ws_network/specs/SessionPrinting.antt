-- What a live session prints, by its lines and what stands after them, and how it ends; a fault is the program's own.

use Rattle.std.specs.Borrow.{Bor}
use Rattle.std.specs.Prelude.{◌≡◌, ℕ, List, [], ◌∷◌, ◌++◌, ◌⊎◌, Bool, true, false, ◌&&◌, Option, None, MatchOption}
use Rattle.std.specs.Prelude.{Result, Ok, Err}
use Rattle.ws_code.specs.Device.{Writer, WentOut}
use Rattle.ws_code.specs.declared.fault.Fault.{Fault}
use Rattle.ws_text.specs.Printed.{Printing, IsPrinted}
use Rattle.ws_script.specs.asked.RunFaults.{told_fault}
use Rattle.ws_live.specs.live.CarryingOn.{IsCarriedText, carrying_on}
use Rattle.ws_live.specs.live.LiveText.{Account, HaveRun, IsOverAt, LinesDo, WithClosing, account, lines_printing}
use Rattle.ws_live.specs.live.LiveText.{telling_by}
use Rattle.ws_printing.specs.declared.paint.Paint.TheVariants.{Plain}
use Rattle.ws_script.specs.declared.lines.live_line.NumberedLine.{NumberedLine}
use Rattle.ws_script.specs.declared.asked.fault.ToldFault.{ToldFault}
use Rattle.ws_live.specs.declared.live.LineSettings.{LineSettings}
use Rattle.ws_live.specs.declared.live.Ran.{Ran}
use Rattle.ws_live.specs.declared.live.Telling.{Telling}
use Rattle.ws_script.specs.declared.cause.vocabulary.Vocabulary.{Vocabulary}
use Rattle.ws_script.specs.lines.LiveScript.{LineLanguage}
use Rattle.ws_network.specs.InputLines.{IsInputFault, IsInputLine}

-- Lines in a session that tells when it is ready, or in one that doesn't.
module _ {L : Type 0} (language : LineLanguage L) (ready : Bool) where
  -- lines of standard input, which have no numbers
  abbrev pub AreInput : List (NumberedLine L) → Type 0
  AreInput [] = Unit {0}
  AreInput (next ∷ more) = (next.number ≡ None)
      × ((vocabulary : Vocabulary) × IsInputLine language vocabulary ready next.line) × AreInput more

  -- the lines are those of a script, where there is one, or else of standard input
  abbrev pub AreScripted : Option (Bor (List (NumberedLine L))) → List (NumberedLine L) → Type 0
  AreScripted script lines = MatchOption script (AreInput lines) (λ asked. lines ≡ asked.now)

-- one of these faults came, and is told as the program's own
abbrev pub IsOwnFault : (Fault → Type 0) → ToldFault → Type 0
IsOwnFault IsFault told = (why : Fault) × IsFault why × (told ≡ told_fault why)

-- how something ends of which this is told
abbrev pub ToldEnds : {A B : Type 0} → (A → B → Type 0) → Printing A Fault → List ℕ → Result B ToldFault → Type 0
ToldEnds {A} Tells printing text (Ok told) = (made : A) × printing.Ends text (Ok made) × Tells made told
ToldEnds Tells printing text (Err told) = IsOwnFault (λ why. printing.Ends text (Err why)) told

-- the same is printed, and of what is made this is told
abbrev pub told_as : {A B : Type 0} → (A → B → Type 0) → Printing A Fault → Printing B ToldFault
told_as Tells printing = record {
  Ends = ToldEnds Tells printing;
  Cut = λ text told. IsOwnFault (printing.Cut text) told;
}

-- what is printed after a text that is out: that text went out, and then this was printed
abbrev pub IsPrintedBehind : {S A E : Type 0} → Writer S → S → S → (List ℕ → Printing A E) → Result A E → Type 0
IsPrintedBehind {S} writer from to printing outcome = (first : List ℕ) × (between : S)
    × WentOut writer from between first × IsPrinted writer between to (printing first) outcome

-- the lines of a session, which lead from there to there, with what each does; and how they are carried out
pub record SessionLines (L P : Type 0) : Type 1 where
  pub does : Telling → LinesDo L P
  pub settings : LineSettings
  pub from : P
  pub lines : List (NumberedLine L)
  pub to : P

-- the lines of a session by what each does: carried out so, from there, these, to there
abbrev pub session_lines : {L P : Type 0} → (Telling → LinesDo L P) → LineSettings → P → List (NumberedLine L) → P
    → SessionLines L P
session_lines does settings from lines to =
    record { does = does; settings = settings; from = from; lines = lines; to = to }

-- a session by its lines, of a script or of standard input
module _ {L P : Type 0} (session : SessionLines L P) where
  -- what each line does with what ends its output
  abbrev pub prints_closed : LinesDo (NumberedLine L) P
  prints_closed = WithClosing session.does session.settings

  -- what one does that stands after them: it has no number
  abbrev pub does_after : LinesDo L P
  does_after = session.does (telling_by Plain None)

  -- what the lines print
  abbrev pub all_lines : Printing Ran Fault
  all_lines = lines_printing session.settings.after prints_closed session.from session.lines session.to

  -- the lines were carried out, this is the account of them, and they came to there
  abbrev pub HaveLedTo : Account → P → Type 0
  HaveLedTo came mid = HaveRun session.settings.after prints_closed session.from session.lines came mid

  -- all were carried out, and without a script there was none more to be had: it couldn't be read, or is bad
  abbrev pub IsOutOfLines : Bool → List ℕ → ToldFault → Type 0
  IsOutOfLines has_script text told = (has_script ≡ false)
      × ((well : Bool) × HaveLedTo (account well text) session.to) × IsInputFault session.settings.ready told

  -- how a session ends of which this is told: its lines do, or without a script there is none more
  abbrev pub SessionEnds : {A : Type 0} → Bool → (Ran → A → Type 0) → List ℕ → Result A ToldFault → Type 0
  SessionEnds has_script Tells text (Ok told) = ToldEnds Tells all_lines text (Ok told)
  SessionEnds has_script Tells text (Err told) = ToldEnds Tells all_lines text (Err told)
      ⊎ IsOutOfLines has_script text told

  -- what is printed by a session of which this is told
  abbrev pub session_printing : {A : Type 0} → Bool → (Ran → A → Type 0) → Printing A ToldFault
  session_printing has_script Tells = record {
    Ends = SessionEnds has_script Tells;
    Cut = (told_as Tells all_lines).Cut;
  }

  -- the account of the lines and of one after them that is carried on: where a line ended the session, nothing
  -- stands after it
  abbrev pub IsTextAndOn : L → Account → Type 0
  IsTextAndOn on came =
      ((so_far : Account) × (mid : P) × (behind : Account) × HaveLedTo so_far mid
      × IsCarriedText does_after on mid behind session.to
      × (came.all_well ≡ so_far.all_well && behind.all_well) × (came.text ≡ so_far.text ++ behind.text))
      ⊎ IsOverAt session.settings.after prints_closed session.from session.lines came session.to

  -- what is printed by the one that is carried on, after lines that went so well
  abbrev pub answering_on : L → Bool → P → Printing Bool ToldFault
  answering_on on well mid = told_as (λ on_well all_well. all_well ≡ well && on_well)
      (carrying_on does_after on mid session.to)

  -- what is printed by lines that end the session
  abbrev pub ending_lines : Bool → Printing Bool ToldFault
  ending_lines has_script = session_printing has_script
      (λ ran all_well. (ran.is_over ≡ true) × (all_well ≡ ran.all_well))

  -- what is printed by such a session after a text that is out: by lines that end it, after nothing; or after all
  -- that lines print, by the one that is carried on
  abbrev pub serve_printing : Bool → L → List ℕ → Printing Bool ToldFault
  serve_printing has_script on first = record {
    Ends = λ text outcome. ((first ≡ []) × (ending_lines has_script).Ends text outcome)
        ⊎ ((well : Bool) × (mid : P) × HaveLedTo (account well first) mid
        × (answering_on on well mid).Ends text outcome);
    Cut = λ text told. ((first ≡ []) × (ending_lines has_script).Cut text told)
        ⊎ ((well : Bool) × (mid : P) × HaveLedTo (account well first) mid
        × (answering_on on well mid).Cut text told);
  }
