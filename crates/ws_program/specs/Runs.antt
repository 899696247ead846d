-- What a run of the program comes to: what it printed, and how it ended.

use Rattle.std.specs.Prelude.{◌≡◌, ℕ, List, Bool, Option, None, Some, Result, Ok, Err, IsErrAnd, ◌⊎◌}
use Rattle.std.specs.Option.{is_none, option_map}
use Rattle.ws_printing.specs.Printouts.{Printout}
use Rattle.ws_script.specs.declared.asked.fault.RunFault.{RunFault}
use Rattle.ws_script.specs.declared.asked.fault.RunFault.TheVariants.{Memory}
use Rattle.ws_script.specs.declared.asked.fault.ToldFault.{ToldFault}
use Rattle.ws_script.specs.declared.asked.fault.ToldFault.TheVariants as told
use Rattle.ws_live.specs.declared.session_asked.SessionAsked.{SessionAsked}
use Rattle.ws_script.specs.declared.asked.open_streams.OpenStreams.{OpenStreams}
use Rattle.ws_script.specs.asked.OpenStreams.{missing}
use Rattle.ws_network.specs.LiveSessions.{HasRunLive, script_of}
use Rattle.ws_program.specs.Actions.{IsCarriedOut}
use Rattle.ws_program.specs.Answering.{of_bytes, sender_parts}
use Rattle.ws_program.specs.ShownSources.{unread_printing}
use Rattle.ws_program.specs.StreamText.{showing}
use Rattle.ws_program.specs.Streams.{at_output, openly}
use Rattle.ws_program.specs.FileChecks.{AreChecked, HasChecked, IsFaultOfChecks, IsFaultOfFiles, IsOneChecked}
use Rattle.ws_program.specs.FileFaults.{IsInputUnread, IsToldBy, IsToldOf, IsToldOfFile}
use Rattle.ws_program.specs.StreamTraces.{HasTraced, IsFaultOfTrace}
use Rattle.ws_program.specs.Tables.{HasPrinted, IsUnprinted}
use Rattle.ws_program.specs.declared.command_fault.CommandFault.{CommandFault}
use Rattle.ws_program.specs.declared.command_fault.CommandFault.TheVariants.{Words, Run}
use Rattle.ws_program.specs.declared.words.command_line.InputAsked.{InputAsked}
use Rattle.ws_program.specs.declared.words.command_line.InputAsked.TheVariants.{Show}
use Rattle.ws_program.specs.declared.words.command_line.StreamForm.TheVariants.{Raw}
use Rattle.ws_program.specs.declared.words.command_line.Task.{Task}
use Rattle.ws_program.specs.declared.words.command_line.Task.TheVariants.{Input, Files, AllFiles, Streams, Print, Live}

-- the words ask for nothing that the program knows, or for help; or a growth was refused
abbrev pub IsWordsFault : CommandFault → Type 0
IsWordsFault (Words why) = Unit {0}
IsWordsFault (Run fault) = fault ≡ Memory
IsWordsFault other = ⊥

-- what a live session lacks: without a script it reads standard input
abbrev pub missing_live : OpenStreams → SessionAsked → Option RunFault
missing_live streams asked = missing streams (is_none (script_of asked))

module _ {S : Type 0} (out : Printout S) (streams : OpenStreams) where
  -- what is asked of an input was done, with the bytes that were read of it
  abbrev pub HasRunInput : InputAsked → Bool → Type 0
  HasRunInput asked accepted = (input : List ℕ)
      × IsCarriedOut out.writer out.from out.to (openly streams.output asked input) (Ok accepted)

  -- raw bytes were shown that couldn't be read to their end
  abbrev pub IsShownUnread : InputAsked → RunFault → Type 0
  IsShownUnread (Show file Raw sender look) why = (input : List ℕ) × IsCarriedOut out.writer out.from out.to
      (at_output streams.output (of_bytes Raw (unread_printing
      (showing (sender_parts sender).rules ((sender_parts sender).view look))) input)) (Err why)
  IsShownUnread asked why = ⊥

  -- an input can't be read, and nothing was written, or what is shown of raw bytes before
  abbrev pub IsNotRead : InputAsked → RunFault → Type 0
  IsNotRead asked why = ((out.to ≡ out.from) × IsInputUnread why) ⊎ IsShownUnread asked why

  -- what is asked of raw bytes came to this: they can't be read, or it was done with those that were read
  abbrev pub IsRawDone : InputAsked → Result Bool RunFault → Type 0
  IsRawDone asked result = IsErrAnd result (IsNotRead asked)
      ⊎ ((input : List ℕ) × IsCarriedOut out.writer out.from out.to (openly streams.output asked input) result)

  -- Why what is asked of an input wasn't done. It can't be read; or this was met with the bytes that were read of it,
  -- and is told with its cause.
  abbrev pub IsFaultOfInput : InputAsked → ToldFault → Type 0
  IsFaultOfInput asked fault = ((why : RunFault) × IsNotRead asked why × (fault ≡ told.Run why))
      ⊎ ((why : RunFault) × ((input : List ℕ)
      × IsCarriedOut out.writer out.from out.to (openly streams.output asked input) (Err why)
      × IsToldOf asked input fault why))

  -- the task of a command line was done: something of an input, checks of files, a dialogue of streams, a table, or a
  -- live session
  abbrev pub HasRunTask : Task → Bool → Type 0
  HasRunTask (Input asked) accepted = HasRunInput asked accepted
  HasRunTask (Files checks) accepted = HasChecked out checks accepted
  HasRunTask (AllFiles checks) accepted = AreChecked (IsOneChecked out.writer streams.output checks)
      checks.files.items out.from out.to accepted
  HasRunTask (Streams traced) accepted = HasTraced out streams.output traced accepted
  HasRunTask (Print shown) accepted = HasPrinted out streams.output shown accepted
  HasRunTask (Live asked) accepted = (missing_live streams asked ≡ None)
      × HasRunLive out asked accepted

  -- why a task wasn't done; where a live session lacks a stream, nothing was written
  abbrev pub IsFaultOfTask : Task → CommandFault → Type 0
  IsFaultOfTask (Input asked) fault = (met : ToldFault) × IsFaultOfInput asked met
      × IsToldBy asked met fault
  IsFaultOfTask (Files checks) fault = IsFaultOfChecks out checks fault
  IsFaultOfTask (AllFiles checks) fault = IsFaultOfFiles (IsOneChecked out.writer streams.output checks)
      checks.files.items out.from out.to fault
  IsFaultOfTask (Streams traced) fault = IsFaultOfTrace out streams.output traced fault
  IsFaultOfTask (Print shown) fault = IsUnprinted out streams.output shown fault
  IsFaultOfTask (Live asked) fault = (met : ToldFault)
      × IsToldOfFile (option_map (λ name. name.now) (script_of asked)) met fault
      × ((why : RunFault) → missing_live streams asked ≡ Some why → out.to ≡ out.from)

  -- why the program didn't do what its words ask for: where the fault is in these, nothing was written
  abbrev pub IsFaultOfRun : CommandFault → Type 0
  IsFaultOfRun fault = (IsWordsFault fault × (out.to ≡ out.from)) ⊎ ((task : Task) × IsFaultOfTask task fault)
