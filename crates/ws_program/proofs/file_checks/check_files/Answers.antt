use Rattle.std.specs.Prelude.{Err}
use Rattle.std.proofs.Common.{ℕ, ◌<◌, List, [], Bor, length, refl, subst, take, get_or}
use Rattle.std.proofs.lemmas.List.{take_more, get_or_default}
use Rattle.ws_program.specs.FileChecks.{AreChecked, IsCheckedBy}
use Rattle.ws_program.specs.FileFaults.{IsOfFile}
use Rattle.ws_program.proofs.Findings.{checked_more}
use Rattle.ws_program.proofs.file_checks.check_files.Goals as goal

pub loop-file-init : goal.loop-file-init
loop-file-init g c = ((refl, refl), c.requires.empty)

pub loop-file-preserved : goal.loop-file-preserved
loop-file-preserved g c =
    let files = c.as_slice-file-items.result.now in
    let index = c.loop-file.file-index in
    let none : Bor (List ℕ) = record { ref_ptr = (0, 0); now = [] } in
    let one_more = take_more files index none c.loop-file-test.true in (
      rw one_more (checked_more (IsCheckedBy g.S.Sink.writer c.args.streams.output c.args.checks.now c.args.all)
          (take index files) (get_or files index none) c.args.sink.now.sink c.loop-file.sink.sink
          c.check_one.new.sink.sink c.loop-file.all_accepted c.in-Ok.accepted c.loop-file.invariant.0
          c.in-Ok.ensures.checked),
      c.check_one.ensures.held,
    )

pub returns-in-Err-clause-fault : goal.returns-in-Err-clause-fault
returns-in-Err-clause-fault g c =
    let items = c.as_slice-file-items.ensures.value in
    let index = c.loop-file.file-index in
    let mid = c.loop-file.sink.sink in
    let why = c.in-Err.fault in
    let none : Bor (List ℕ) = record { ref_ptr = (0, 0); now = [] } in
    let Met : Bor (List ℕ) → Type 0 = λ file. IsOfFile file.now why c.of_file.result
    × IsCheckedBy g.S.Sink.writer c.args.streams.output c.args.checks.now c.args.all file mid
    c.check_one.new.sink.sink (Err why) in
    record {
      count = index;
      within = subst (λ files. index < length files) items c.loop-file-test.true;
      mid = mid;
      accepted = c.loop-file.all_accepted;
      before = subst (λ files. AreChecked (IsCheckedBy g.S.Sink.writer c.args.streams.output c.args.checks.now
          c.args.all) (take index files) c.args.sink.now.sink mid c.loop-file.all_accepted) items
          c.loop-file.invariant.0;
      why = why;
      met = λ d. subst (λ files. Met (get_or files index d)) items (subst Met (get_or_default
          c.as_slice-file-items.result.now index none d c.loop-file-test.true) (
            c.of_file.ensures,
            c.in-Err.ensures.checked,
          ));
    }
