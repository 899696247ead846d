-- Checks of several files: a line for each, which begins with the file's name; or where they go on after refusals, lines
-- that do.

use Rattle.std.specs.Prelude.{◌≡◌, ℕ, ◌<◌, List, [], ◌∷◌, ◌++◌, ◌&&◌, Bool, true, Result, Ok, Err, codes}
use Rattle.std.specs.Prelude.{false, length, take, flat_map, HoldsAt, Some, IsErrAnd, ◌⊎◌}
use Rattle.std.specs.Borrow.{Bor}
use Rattle.std.specs.List.{list_all}
use Rattle.ws_code.specs.Device.{FailedWithin, Writer, WentOut}
use Rattle.ws_script.specs.declared.asked.fault.RunFault.{RunFault}
use Rattle.ws_script.specs.declared.asked.fault.RunFault.TheVariants.{Write}
use Rattle.ws_script.specs.declared.asked.sender.Sender.{Sender}
use Rattle.ws_printing.specs.Printouts.{IsPrintedOut, Printout}
use Rattle.ws_program.specs.Actions.{IsCarriedOut}
use Rattle.ws_program.specs.Answering.{sender_parts}
use Rattle.ws_printing.specs.CheckLine.{IsVerdict, is_accepted, line_of}
use Rattle.ws_program.specs.FileFaults.{IsInputUnread, IsOfFile}
use Rattle.ws_program.specs.StreamBytes.{AreBytesOf, IsFormFault}
use Rattle.ws_program.specs.Streams.{openly}
use Rattle.ws_program.specs.declared.command_fault.CommandFault.{CommandFault}
use Rattle.ws_program.specs.declared.file_checks.FileChecks.{FileChecks}
use Rattle.ws_printing.specs.declared.verdict.Verdict.{Verdict}
use Rattle.ws_program.specs.declared.words.command_line.InputAsked.TheVariants.{CheckAll}
use Rattle.ws_program.specs.declared.words.command_line.StreamForm.{StreamForm}

-- what a check found in a file of this name: the bytes of its stream, and what holds of them
pub record Found : Type 0 where
  pub name : List ℕ
  pub bytes : List ℕ
  pub verdict : Verdict

-- the line of a file: its name, a colon and a blank, and the line of a check of so many bytes
abbrev pub named_line : List ℕ → Verdict → ℕ → List ℕ
named_line name verdict size = name ++ codes ": " ++ line_of verdict size

-- the line of what was found in a file
abbrev pub found_line : Found → List ℕ
found_line found = named_line found.name found.verdict (length found.bytes)

-- whether all are accepted
abbrev pub all_accepted : List Found → Bool
all_accepted found = list_all (λ f. is_accepted f.verdict) found

-- the bytes that an input tells in this form, or those that were read of it, and what holds of them as a sender's
abbrev pub IsFoundIn : StreamForm → Sender → List ℕ → Verdict → Type 0
IsFoundIn form sender bytes verdict = ((input : List ℕ) × AreBytesOf form bytes input)
    × IsVerdict (sender_parts sender).rules bytes verdict

-- why nothing is found in a file: it can't be read or tells no bytes in this form, or a growth was refused
abbrev pub IsUnfound : StreamForm → RunFault → Type 0
IsUnfound form fault = IsInputUnread fault ⊎ ((input : List ℕ) × IsFormFault form input fault)

-- what was found in files, in their order
abbrev pub AreFound : StreamForm → Sender → List (Bor (List ℕ)) → List Found → Type 0
AreFound form sender [] [] = Unit {0}
AreFound form sender (file ∷ files) (f ∷ found) = (f.name ≡ file.now) × IsFoundIn form sender f.bytes f.verdict
    × AreFound form sender files found
AreFound form sender files found = ⊥

-- what a check of a file does to a sink, and what it comes to
abbrev pub FileCheck : Type 0 → Type 1
FileCheck S = Bor (List ℕ) → S → S → Result Bool RunFault → Type 0

module _ {S : Type 0} (IsChecked : FileCheck S) where
  -- files were checked one after another, and whether all are accepted
  abbrev pub AreChecked : List (Bor (List ℕ)) → S → S → Bool → Type 0
  AreChecked [] from to accepted = (to ≡ from) × (accepted ≡ true)
  AreChecked (file ∷ files) from to accepted = (mid : S) × (first rest : Bool) × IsChecked file from mid (Ok first)
      × AreChecked files mid to rest × (accepted ≡ (first && rest))

  -- The files before one were checked. The check of this one met a fault, which is told with the file's name where it is
  -- one of the file.
  pub record IsFaultOfFiles (files : List (Bor (List ℕ))) (from to : S) (fault : CommandFault) : Type 0 where
    pub count : ℕ
    pub within : count < length files
    pub mid : S
    pub accepted : Bool
    pub before : AreChecked (take count files) from mid accepted
    pub why : RunFault
    pub met : HoldsAt (λ file. IsOfFile file.now why fault × IsChecked file mid to (Err why)) files count

-- A file was checked, and its line was printed. Nothing is found in it, or its line couldn't be printed whole.
abbrev pub IsFileChecked : {S : Type 0} → Writer S → FileChecks → FileCheck S
IsFileChecked writer checks file from to (Ok accepted) = (found : Found) × (found.name ≡ file.now)
    × IsFoundIn checks.form checks.from found.bytes found.verdict × (accepted ≡ is_accepted found.verdict)
    × WentOut writer from to (found_line found)
IsFileChecked writer checks file from to (Err why) = ((to ≡ from) × (IsUnfound checks.form why ⊎ (why ≡ Write)))
    ⊎ ((why ≡ Write) × ((found : Found) × FailedWithin writer from to (found_line found)))

module _ {S : Type 0} (writer : Writer S) (has_output : Bool) (checks : FileChecks) where
  -- a file can't be read, or was checked with the bytes that were read of it, going on after refusals
  abbrev pub IsOneChecked : FileCheck S
  IsOneChecked file from to outcome = IsErrAnd outcome (λ fault. (to ≡ from) × IsInputUnread fault)
      ⊎ ((input : List ℕ) × IsCarriedOut writer from to
      (openly has_output (CheckAll (Some file) checks.form checks.from true) input) outcome)

  -- a check of a file that goes on after refusals, or one with a line
  abbrev pub IsCheckedBy : Bool → FileCheck S
  IsCheckedBy true = IsOneChecked
  IsCheckedBy false = IsFileChecked writer checks

module _ {S : Type 0} (out : Printout S) (checks : FileChecks) where
  -- the files were checked, and the line of each was printed
  abbrev pub HasChecked : Bool → Type 0
  HasChecked accepted = (found : List Found) × AreFound checks.form checks.from checks.files.items found
      × (accepted ≡ all_accepted found) × IsPrintedOut out (flat_map found_line found)

  -- The files before one were checked, and their lines were printed. Nothing is found in this one, or its line couldn't
  -- be printed whole, and that is told with its name where it is a fault of the file.
  pub record IsFaultOfChecks (fault : CommandFault) : Type 0 where
    pub count : ℕ
    pub within : count < length checks.files.items
    pub found : List Found
    pub are : AreFound checks.form checks.from (take count checks.files.items) found
    pub why : RunFault
    pub named : HoldsAt (λ file. IsOfFile file.now why fault) checks.files.items count
    pub met : (IsUnfound checks.form why × IsPrintedOut out (flat_map found_line found))
        ⊎ ((why ≡ Write) × (IsPrintedOut out (flat_map found_line found) ⊎ ((last : Found)
        × FailedWithin out.writer out.from out.to (flat_map found_line found ++ found_line last))))
