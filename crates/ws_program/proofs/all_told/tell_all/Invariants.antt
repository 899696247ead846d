use Rattle.std.proofs.Common.{take}
use Rattle.ws_program.specs.AllTold.{makes_by, told_in}
use Rattle.ws_program.proofs.AllLines.{ToldSoFar}
use Rattle.ws_program.proofs.all_told.tell_all.Given as goal

-- the bytes so far are told
abbrev pub invariant-loop-place : goal.invariant-loop-place
invariant-loop-place g l = ToldSoFar g.B.Code.rules (told_in l.way g.B.Unit.Listed.lines_of g.B.Shown.view)
    (makes_by l.way g.B.Shown.makes) g.S.Sink.writer l.fn.sink l.sink (take l.place l.bytes)
    (record { reader = l.reader; made = l.made; taken = l.place }) l.counts
