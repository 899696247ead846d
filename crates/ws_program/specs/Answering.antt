-- What the program makes of an input: what it prints of it, and what it answers.

use Rattle.std.specs.Prelude.{◌≡◌, ℕ, List, Bool, true, false, None, Result, Ok, Err, ◌⊎◌, if◌then◌else◌}
use Rattle.ws_code.specs.Code.{Rules}
use Rattle.ws_code.specs.declared.fault.Fault.{Fault}
use Rattle.ws_extended.specs.ExtendedAnswers.{extended_answer_rules}
use Rattle.ws_extended.specs.ExtendedElements.{extended_rules}
use Rattle.ws_stream.specs.Elements.{element_rules}
use Rattle.ws_stream.specs.AnswerParts.{answer_rules}
use Rattle.ws_screen.specs.ScreenParts.{ScreenParts}
use Rattle.ws_text.specs.AnswerLines.{part_lines}
use Rattle.ws_text.specs.AnswerWords.{answer_wording}
use Rattle.ws_text.specs.ElementWords.{element_wording}
use Rattle.ws_text.specs.ExtendedAnswerLines.{told_lines}
use Rattle.ws_text.specs.ExtendedAnswerWords.{told_wording}
use Rattle.ws_text.specs.ExtendedLines.{extended_lines}
use Rattle.ws_text.specs.ExtendedWords.{extended_wording}
use Rattle.ws_text.specs.ItemLines.{element_lines}
use Rattle.ws_text.specs.Printed.{Printing, in_whole}
use Rattle.ws_text.specs.Wording.{Wording}
use Rattle.ws_script.specs.asked.RunFaults.{run_fault}
use Rattle.ws_program.specs.StreamText.{View}
use Rattle.ws_program.specs.Actions.{Action}
use Rattle.ws_program.specs.Tellings.{told_printing}
use Rattle.ws_program.specs.declared.telling.Telling.{Telling}
use Rattle.ws_program.specs.declared.telling.Telling.TheVariants as telling
use Rattle.ws_printing.specs.SourceChecks.{HasRefusal}
use Rattle.ws_program.specs.Making.{make_action}
use Rattle.ws_program.specs.StreamBytes.{AreBytesOf, IsFormFault}
use Rattle.ws_program.specs.Traced.{trace_action}
use Rattle.ws_program.specs.Views.{extended_view, painted_host_view, answer_view, told_view}
use Rattle.ws_printing.specs.declared.look.Look.{Look}
use Rattle.ws_printing.specs.declared.paint.Paint.{Paint}
use Rattle.ws_program.specs.declared.words.command_line.InputAsked.{InputAsked}
use Rattle.ws_program.specs.declared.words.command_line.InputAsked.TheVariants.{Check, CheckAll, Show, ShowAll}
use Rattle.ws_program.specs.declared.words.command_line.InputAsked.TheVariants.{Trace, Play, Make}
use Rattle.ws_script.specs.declared.asked.sender.Sender.{Sender}
use Rattle.ws_script.specs.declared.asked.sender.Sender.TheVariants.{Host, ExtendedHost, Station, ExtendedStation}
use Rattle.ws_program.specs.declared.words.command_line.StreamForm.{StreamForm}
use Rattle.ws_script.specs.declared.asked.fault.RunFault.{RunFault}
use Rattle.ws_script.specs.declared.asked.fault.RunFault.TheVariants.{Read, Line, Memory, Write, NoConnection}
use Rattle.ws_nego.specs.declared.terminal.TerminalType.TheVariants.{Ibm3179Model2}
use Rattle.ws_session.specs.declared.world.Event.{Event}
use Rattle.ws_session.specs.declared.world.Move.{Move}
use Rattle.ws_session.specs.declared.world.Report.{Report}
use Rattle.ws_session.specs.world.Reports.{IsReport}
use Rattle.ws_session.specs.world.Session.{Session, new_session, after_moves}
use Rattle.ws_end.specs.station.StationEndState.{screen_at}
use Rattle.ws_printing.specs.script.Script.{IsScript, IsFirstBad}
use Rattle.ws_printing.specs.script.ScriptFaults.{IsReadSoFar}
use Rattle.ws_printing.specs.PlayLines.{IsPaintedPlayText, no_end_refuses}

-- what is told of a session, and its screen in a paint where it is asked for
abbrev pub IsSessionText : Paint → Session → Bool → List ℕ → Type 0
IsSessionText paint w screen text = IsPaintedPlayText paint w.events (screen_at w.station) screen text

-- a script is good as far as it was read, or as a whole
abbrev pub IsGoodScript : List ℕ → Type 0
IsGoodScript script = IsReadSoFar script ⊎ ((moves : List Move) × IsScript script moves)

-- a script that spells moves
abbrev pub SpellsMoves : List ℕ → Type 0
SpellsMoves script = (moves : List Move) × IsScript script moves

-- the faults of a script that isn't played, which are met before anything is written; over a connection that may fail
-- where the script is good
abbrev pub IsUnplayedBy : Bool → List ℕ → RunFault → Type 0
IsUnplayedBy tcp script (Line number) = IsFirstBad script number
IsUnplayedBy tcp script Memory = IsGoodScript script
IsUnplayedBy true script NoConnection = SpellsMoves script
IsUnplayedBy true script Read = SpellsMoves script
IsUnplayedBy true script Write = SpellsMoves script
IsUnplayedBy tcp script fault = ⊥

-- what the session of a script comes to; over a connection it isn't known
abbrev pub IsReportOf : Bool → List ℕ → Report → Type 0
IsReportOf true script report = SpellsMoves script
IsReportOf false script report = (moves : List Move) × IsScript script moves
    × IsReport report (after_moves (new_session Ibm3179Model2) moves)

-- a script is played, and what its session tells is printed; its terminal is the default one
abbrev pub play_action : Paint → Bool → List ℕ → Action Bool RunFault
play_action paint screen script = record {
  Refuses = IsUnplayedBy false script;
  prints = in_whole Write (λ text outcome. (moves : List Move) × IsScript script moves
      × IsSessionText paint (after_moves (new_session Ibm3179Model2) moves) screen text
      × (outcome ≡ Ok (no_end_refuses (after_moves (new_session Ibm3179Model2) moves).events)));
}

-- A script is played over a connection, and what is told of a session is printed. What a connection does isn't known,
-- so the session isn't either.
abbrev pub play_tcp_action : Paint → Bool → List ℕ → Action Bool RunFault
play_tcp_action paint screen script = record {
  Refuses = IsUnplayedBy true script;
  prints = in_whole Write (λ text outcome. SpellsMoves script × ((events : List Event) × (shown : ScreenParts)
      × IsPaintedPlayText paint events shown screen text × (outcome ≡ Ok (no_end_refuses events))));
}

-- What is known of a sender: what it sends, the lines of a body, how that is shown in a paint and on a page, and how it
-- is written as text.
pub record SenderParts : Type 1 where
  pub Place : Type 0
  pub Sent : Type 0
  pub rules : Rules Place Sent
  pub lines : List Sent → List ℕ
  pub view : Look → View Sent
  pub wording : Wording Sent

-- these parts
abbrev pub parts_of : {Place Sent : Type 0} → Rules Place Sent → (List Sent → List ℕ) → (Look → View Sent) → Wording Sent
    → SenderParts
parts_of {Place} {Sent} rules lines view wording =
    record { Place = Place; Sent = Sent; rules = rules; lines = lines; view = view; wording = wording }

-- A sender's parts: a host sends the commands of the profile alone, or also beside it; a station answers, alone or with
-- what is told at once, and has no screen.
abbrev pub sender_parts : Sender → SenderParts
sender_parts Host = parts_of element_rules element_lines painted_host_view element_wording
sender_parts ExtendedHost = parts_of extended_rules extended_lines extended_view extended_wording
sender_parts Station = parts_of answer_rules part_lines (λ look. answer_view) answer_wording
sender_parts ExtendedStation = parts_of extended_answer_rules told_lines (λ look. told_view) told_wording

-- a byte of a sender's stream is refused
abbrev pub HasRefusalBy : Sender → List ℕ → Type 0
HasRefusalBy sender = HasRefusal (sender_parts sender).rules

-- the outcome of a command as the program's own
abbrev pub run_outcome : Result Bool Fault → Result Bool RunFault
run_outcome (Ok accepted) = Ok accepted
run_outcome (Err fault) = Err (run_fault fault)

-- the bytes that an input tells are printed of; where it gives none, this is answered before anything is written
abbrev pub of_bytes : StreamForm → (List ℕ → Printing Bool Fault) → List ℕ → Action Bool RunFault
of_bytes form printing input = record {
  Refuses = IsFormFault form input;
  prints = record {
    Ends = λ text outcome. (bytes : List ℕ) × AreBytesOf form bytes input × ((met : Result Bool Fault)
        × (printing bytes).Ends text met × (outcome ≡ run_outcome met));
    Cut = λ text fault. (bytes : List ℕ) × AreBytesOf form bytes input × ((met : Fault)
        × (printing bytes).Cut text met × (fault ≡ run_fault met));
  };
}

-- what is printed of a sender's bytes
abbrev pub sent_printing : Sender → Telling → List ℕ → Printing Bool Fault
sent_printing sender told bytes = told_printing (sender_parts sender).rules (sender_parts sender).lines
    (sender_parts sender).view told bytes

-- what the program does with its input: with the bytes that it tells, with a recording, a script, or items as text
abbrev pub answer_action : InputAsked → List ℕ → Action Bool RunFault
answer_action (Check file form cut sender) input = of_bytes form (sent_printing sender (telling.Check cut)) input
answer_action (CheckAll file form sender named) input =
    of_bytes form (sent_printing sender (telling.CheckAll (if named then file else None))) input
answer_action (Show file form sender look) input = of_bytes form (sent_printing sender (telling.Show look)) input
answer_action (ShowAll file form sender shown) input = of_bytes form (sent_printing sender (telling.ShowAll shown)) input
answer_action (Trace file form) input = trace_action form input
answer_action (Play file screen false paint) input = play_action paint screen input
answer_action (Play file screen true paint) input = play_tcp_action paint screen input
answer_action (Make file sender raw) input = make_action (sender_parts sender).rules (sender_parts sender).wording
    raw input

-- the exit status: 0 where all was accepted, 1 where it wasn't, 2 on a fault
abbrev pub status_of : {E : Type 0} → Result Bool E → ℕ
status_of (Ok true) = 0
status_of (Ok false) = 1
status_of (Err fault) = 2
