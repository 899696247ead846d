-- What a line of a script for a host does there, and what it prints, by what the host end is told.

use Rattle.std.specs.Prelude.{◌≡◌, ℕ, List, [], ◌++◌, Bool, true, false, Option, None, Some}
use Rattle.std.specs.Prelude.{◌==◌, codes, string_bytes, Result, Ok, Err}
use Rattle.ws_code.specs.declared.fault.Fault.{Fault}
use Rattle.ws_end.specs.attached.Attachments.{AttachedParts}
use Rattle.ws_end.specs.attached.Requests.{HasActed, request_judged}
use Rattle.ws_end.specs.host_end.HostReached.{HostParts}
use Rattle.ws_end.specs.Behaviours.{host_behaviour}
use Rattle.ws_end.specs.declared.attached.acted.Acted.{Acted}
use Rattle.ws_end.specs.declared.attached.acted.Acted.TheVariants as acted
use Rattle.ws_end.specs.declared.host_end.host_event.HostEvent.{HostEvent}
use Rattle.ws_end.specs.declared.host_end.host_event.HostEvent.TheVariants.{Answer}
use Rattle.ws_end.specs.declared.host_end.send_fault.SendFault.{SendFault}
use Rattle.ws_live.specs.live.Hearing.{HearsOne, HearsUntil}
use Rattle.ws_live.specs.live.LiveText.{LinesDo, bad_outcome, bad_text, line_behind}
use Rattle.ws_live.specs.live.Watches.{InTime, WatchTimes, WatchedDevices}
use Rattle.ws_printing.specs.PlayLines.{send_fault_name}
use Rattle.ws_printing.specs.ToldLines.{told_text}
use Rattle.ws_printing.specs.ScreenLines.{IsScreenText, on_037}
use Rattle.ws_live.specs.live.WireRuns.{WireRuns}
use Rattle.ws_script.specs.declared.lines.serve_line.AnswerAwaited.{AnswerAwaited}
use Rattle.ws_script.specs.declared.lines.serve_line.AnswerAwaited.TheVariants.{Any, By}
use Rattle.ws_script.specs.declared.lines.serve_line.HostLine.{HostLine}
use Rattle.ws_script.specs.declared.lines.serve_line.HostLine.TheVariants.{Nothing as NoLine, Give, Await, AwaitAnswer}
use Rattle.ws_script.specs.declared.lines.serve_line.HostLine.TheVariants.{Show, Wire, Bad}
use Rattle.ws_live.specs.declared.live.Closing.{Closing}
use Rattle.ws_live.specs.declared.live.LiveSession.{LiveSession}
use Rattle.ws_live.specs.declared.live.Telling.{Telling}
use Rattle.ws_printing.specs.declared.paint.Paint.TheVariants.{Plain}
use Rattle.ws_live.specs.declared.live.watch.WaitSpan.{WaitSpan}
use Rattle.ws_live.specs.declared.live.watch.WaitSpan.TheVariants.{Whole}
use Rattle.ws_live.specs.declared.live.Closing.TheVariants.{Nothing, Done, Declined}

-- how a send or a cancel closes, and what it prints
abbrev pub given_outcome : Result (Acted SendFault) Fault → Result Closing Fault
given_outcome (Ok acted.Done) = Ok Done
given_outcome (Ok (acted.Refused why)) = Ok Declined
given_outcome (Err why) = Err why

-- what an order to the host end prints, by a line of this number: why the record couldn't be sent, or nothing
abbrev pub given_text : Option ℕ → Result (Acted SendFault) Fault → List ℕ
given_text number (Ok (acted.Refused why)) = codes "send refused " ++ send_fault_name why ++ line_behind number
    ++ codes "\n"
given_text number given = []

-- how long a line waits, if it does
abbrev pub host_waits : HostLine → Option WaitSpan
host_waits Await = Some Whole
host_waits (AwaitAnswer awaited) = Some Whole
host_waits line = None

-- the answer is the one that a wait is for
abbrev pub is_awaited_aid : AnswerAwaited → ℕ → Bool
is_awaited_aid Any aid = true
is_awaited_aid (By key) aid = aid == key

-- what the host end tells is the answer that a wait is for
abbrev pub is_awaited : AnswerAwaited → HostEvent → Bool
is_awaited awaited (Answer answer) = is_awaited_aid awaited answer.aid
is_awaited awaited told = false

-- What lines do, at a watch that tells of a source whether the read that failed was late.
module _ {S K : Type 0} (on : WatchedDevices S K) where
  -- what a line of this number comes to at a host end
  abbrev pub HostDoes : Option ℕ → LinesDo HostLine (AttachedParts HostParts S K)
  HostDoes number NoLine from came to = (to ≡ from) × (came.outcome ≡ Ok Nothing) × (came.text ≡ [])
  HostDoes number (Give order) from came to = (given : Result (Acted SendFault) Fault) × (from.broken ≡ false)
      × HasActed on.devices (request_judged order) from to given
      × (came.outcome ≡ given_outcome given) × (came.text ≡ given_text number given)
  HostDoes number Await from came to =
      (told : Option HostEvent) × HearsOne host_behaviour told_text on from told came to
  HostDoes number (AwaitAnswer awaited) from came to =
      HearsUntil host_behaviour told_text on (is_awaited awaited) from came to
  HostDoes number Show from came to = (to ≡ from) × (came.outcome ≡ Ok Done)
      × IsScreenText (on_037 Plain) from.end.reacts.screen came.text
  HostDoes number (Wire line) from came to = WireRuns on.devices.writer line from came.outcome to × (came.text ≡ [])
  HostDoes number (Bad cause) from came to = (to ≡ from) × (came.outcome ≡ bad_outcome)
      × (came.text ≡ bad_text (string_bytes cause))

  -- what a line comes to at it, where so many records are ahead, which no line of a host takes
  abbrev pub HostRuns : Telling → LinesDo HostLine (AttachedParts HostParts S K × ℕ)
  HostRuns telling line from came to = HostDoes telling.line line from.0 came to.0 × (to.1 ≡ from.1)

  -- what lines do at a host, at a watch that keeps its waits so
  abbrev pub HostRunsInTime : {W : Type 0} → WatchTimes W S → Telling → LinesDo HostLine (LiveSession HostParts S K W)
  HostRunsInTime times telling = InTime (HostRuns telling) host_waits times
