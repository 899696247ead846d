use Rattle.std.specs.Prelude.{Bool, true, false, ◌&&◌, flat_map, ◌⊎◌, Ok}
use Rattle.std.proofs.Common.{◌≡◌, ℕ, List, [], ◌∷◌, ◌++◌, inl, inr, refl, sym, ap, ◌∙◌, subst, take, Bor}
use mathlib.Core.Bool.{and-true, and_assoc}
use Rattle.ws_code.specs.Device.{Writer, WentOut, FailedWithin}
use Rattle.ws_code.proofs.DeviceLaws.{went_out_none, went_out_both}
use Rattle.ws_code.proofs.Parts.{fails_last}
use Rattle.ws_script.specs.declared.asked.fault.RunFault.{RunFault}
use Rattle.ws_script.specs.declared.asked.fault.RunFault.TheVariants.{Write}
use Rattle.ws_printing.specs.CheckLine.{is_accepted}
use Rattle.ws_printing.specs.Printouts.{printout}
use Rattle.ws_program.specs.FileChecks.{AreChecked, AreFound, FileCheck, Found, HasChecked, IsFaultOfChecks}
use Rattle.ws_program.specs.FileChecks.{IsFaultOfFiles, IsFileChecked, IsUnfound, all_accepted, found_line}
use Rattle.ws_program.specs.declared.command_fault.CommandFault.{CommandFault}
use Rattle.ws_program.specs.declared.file_checks.FileChecks.{FileChecks}
use Rattle.ws_program.specs.declared.words.command_line.StreamForm.{StreamForm}

-- Files that are checked one after another.

-- a file more
pub checked_more : {S : Type 0} (IsChecked : FileCheck S) (files : List (Bor (List ℕ))) (file : Bor (List ℕ))
    (from mid to : S) (accepted first : Bool) → AreChecked IsChecked files from mid accepted
    → IsChecked file mid to (Ok first) → AreChecked IsChecked (files ++ file ∷ []) from to (accepted && first)
checked_more {S} IsChecked [] file from mid to accepted first h one = (
  to,
  first,
  true,
  subst (λ (s : S). IsChecked file s to (Ok first)) h.0 one,
  (refl, refl),
  ap (λ b. b && first) h.1 ∙ sym (and-true first),
)
checked_more IsChecked (x ∷ files) file from mid to accepted first h one = (
  h.0,
  h.1,
  h.2 && first,
  h.3,
  checked_more IsChecked files file h.0 mid to h.2 first h.4 one,
  ap (λ b. b && first) h.5 ∙ and_assoc h.1 h.2 first,
)

-- what a check of a file more comes to that met a fault, after the lines of those before
met_more : {S : Type 0} (writer : Writer S) (from mid to : S) (form : StreamForm) (lines : List ℕ)
    → WentOut writer from mid lines → (why : RunFault) → ((to ≡ mid) × (IsUnfound form why ⊎ (why ≡ Write)))
    ⊎ ((why ≡ Write) × ((last : Found) × FailedWithin writer mid to (found_line last)))
    → (IsUnfound form why × WentOut writer from to lines) ⊎ ((why ≡ Write) × (WentOut writer from to lines
    ⊎ ((last : Found) × FailedWithin writer from to (lines ++ found_line last))))
met_more {S} writer from mid to form lines out why (inl (same, h)) = on h
  where
    all_out : WentOut writer from to lines
    all_out = subst (λ (s : S). WentOut writer from s lines) (sym same) out

    on : IsUnfound form why ⊎ (why ≡ Write) → (IsUnfound form why × WentOut writer from to lines)
        ⊎ ((why ≡ Write) × (WentOut writer from to lines ⊎ ((last : Found)
        × FailedWithin writer from to (lines ++ found_line last))))
    on (inl fault) = inl (fault, all_out)
    on (inr e) = inr (e, inl all_out)
met_more writer from mid to form lines out why (inr (e, (last, f))) =
    inr (e, inr (last, fails_last writer from mid to lines (found_line last) out f))

module _ {S : Type 0} (writer : Writer S) (checks : FileChecks) where
  -- what is found in files, and their lines
  files_found : (files : List (Bor (List ℕ))) (from to : S) (accepted : Bool)
      → AreChecked (IsFileChecked writer checks) files from to accepted
      → (found : List Found) × AreFound checks.form checks.from files found × (accepted ≡ all_accepted found)
      × WentOut writer from to (flat_map found_line found)
  files_found [] from to accepted h =
      ([], tt, h.1, subst (λ (s : S). WentOut writer from s []) (sym h.0) (went_out_none writer from))
  files_found (file ∷ files) from to accepted (mid, first, rest, one, more, is) =
      let f = one.0 in
      let found = files_found files mid to rest more in (
        f ∷ found.0,
        (one.1, one.2, found.1),
        is ∙ ap (λ b. b && rest) one.3 ∙ ap (λ b. is_accepted f.verdict && b) found.2,
        went_out_both writer from mid to (found_line f) (flat_map found_line found.0) one.4 found.3,
      )

  pub has_checked : (from to : S) (accepted : Bool)
      → AreChecked (IsFileChecked writer checks) checks.files.items from to accepted
      → HasChecked (printout writer from to) checks accepted
  has_checked from to accepted h = files_found checks.files.items from to accepted h

  pub fault_of_checks : (from to : S) (fault : CommandFault)
      → IsFaultOfFiles (IsFileChecked writer checks) checks.files.items from to fault
      → IsFaultOfChecks (printout writer from to) checks fault
  fault_of_checks from to fault h =
      let found = files_found (take h.count checks.files.items) from h.mid h.accepted h.before in
      record {
        count = h.count;
        within = h.within;
        found = found.0;
        are = found.1;
        why = h.why;
        named = λ d. (h.met d).0;
        met = met_more writer from h.mid to checks.form (flat_map found_line found.0) found.3 h.why
            (h.met (record { ref_ptr = (0, 0); now = [] })).1;
      }
