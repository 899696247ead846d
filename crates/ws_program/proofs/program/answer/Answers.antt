use Rattle.std.specs.Prelude.{Ok, Option, true, false}
use Rattle.std.proofs.Common.{◌≡◌, ℕ, List, Bool, Bor, refl, ap, ◌∙◌, subst, inr}
use Rattle.ws_screen.specs.ScreenParts.{ScreenParts}
use Rattle.ws_session.specs.declared.world.Event.{Event}
use Rattle.ws_session.specs.declared.world.Report.{Report}
use Rattle.ws_nego.specs.declared.terminal.TerminalType.TheVariants.{Ibm3179Model2}
use Rattle.ws_session.specs.world.Session.{new_session, after_moves}
use Rattle.ws_printing.specs.declared.paint.Paint.{Paint}
use Rattle.ws_printing.specs.PlayLines.{IsPaintedPlayText, no_end_refuses}
use Rattle.ws_program.specs.Answering.{IsReportOf, answer_action}
use Rattle.ws_program.specs.declared.words.command_line.InputAsked.TheVariants.{Play}
use Rattle.std.proofs.lemmas.Result.{err_from_is_err_and}
use Rattle.ws_program.proofs.Printings.{answer_cut}
use Rattle.ws_program.proofs.program.answer.Goals as goal

module _ (file : Option (Bor (List ℕ))) (screen : Bool) (paint : Paint) (script : List ℕ) where
  -- what is told of its session
  played : (tcp : Bool) (report : Report) → IsReportOf tcp script report → (text : List ℕ) (accepted : Bool)
      → IsPaintedPlayText paint report.events report.station.reacts.screen.screen screen text
      → accepted ≡ no_end_refuses report.events
      → (answer_action (Play file screen tcp paint) script).prints.Ends text (Ok accepted)
  played true report is text accepted t well =
      (is, (report.events, report.station.reacts.screen.screen, t, ap Ok well))
  played false report (moves, are, r) text accepted t well = (
    moves,
    are,
    subst (λ (s : ScreenParts). IsPaintedPlayText paint (after_moves (new_session Ibm3179Model2) moves).events s screen
        text) r.screen
        (subst (λ (es : List Event). IsPaintedPlayText paint es report.station.reacts.screen.screen screen text)
        r.events t),
    ap Ok (well ∙ ap no_end_refuses r.events),
  )

pub returns-in-Check : goal.returns-in-Check
returns-in-Check g c = rw c.in-Check.is c.tell_input.ensures

pub returns-in-CheckAll : goal.returns-in-CheckAll
returns-in-CheckAll g c = rw c.in-CheckAll.is (rw c.name_told.ensures at c.tell_input-in-CheckAll.ensures)

pub returns-in-Show : goal.returns-in-Show
returns-in-Show g c = rw c.in-Show.is c.tell_input-in-Show.ensures

pub returns-in-ShowAll : goal.returns-in-ShowAll
returns-in-ShowAll g c = rw c.in-ShowAll.is c.tell_input-in-ShowAll.ensures

pub returns-in-Trace : goal.returns-in-Trace
returns-in-Trace g c = rw c.in-Trace.is c.trace_recording.ensures

pub returns-in_ok-play_painted_to-in-Play : goal.returns-in_ok-play_painted_to-in-Play
returns-in_ok-play_painted_to-in-Play g c =
    let arm = c.in-Play in
    let report = c.in_ok-report-in-Play in
    let printed = c.in_ok-play_painted_to-in-Play.ensures.printed in
    rw arm.is (inr (
      printed.0,
      played arm.file arm.screen arm.paint c.args.text.now arm.tcp report.report report.ensures.ok printed.0 _
          printed.1 printed.3,
      printed.2,
    ))

pub returns-in_err-play_painted_to-in-Play : goal.returns-in_err-play_painted_to-in-Play
returns-in_err-play_painted_to-in-Play g c =
    let arm = c.in-Play in
    let report = c.in_ok-report-in-Play in
    let p = err_from_is_err_and c.from_residual-in_err-play_painted_to-in-Play.result
    c.from_residual-in_err-play_painted_to-in-Play.ensures.1 in
    let e = c.in_err-play_painted_to-in-Play.ensures.fault in
    rw (p.1, p.2, e.0, arm.is) (inr (inr (
      e.1.0,
      answer_cut (Play arm.file arm.screen arm.tcp arm.paint) c.args.text.now e.1.0
          (Ok (no_end_refuses report.report.events)) (played arm.file arm.screen arm.paint c.args.text.now arm.tcp
          report.report report.ensures.ok e.1.0 _ e.1.1 refl),
      e.1.2,
    )))

pub returns-in-Make : goal.returns-in-Make
returns-in-Make g c = rw c.in-Make.is c.make_sent.ensures
