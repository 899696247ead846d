use Rattle.std.proofs.Common.{◌≡◌, [], take}
use Rattle.ws_program.specs.FileChecks.{AreChecked, IsCheckedBy}
use Rattle.ws_program.proofs.file_checks.check_files.Given as goal

-- the files so far were checked
abbrev pub invariant-loop-file : goal.invariant-loop-file
invariant-loop-file g l = AreChecked (IsCheckedBy g.S.Sink.writer l.streams.output l.checks l.all)
    (take l.file-index l.file-items) l.fn.sink.sink l.sink.sink l.all_accepted × (l.sink.held ≡ [])
