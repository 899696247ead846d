use Rattle.std.proofs.Common.{◌+◌, ◌-◌, ◌<◌, ◌≤◌, ◌^◌, ◌++◌, ℕ, List, length, take}
use Rattle.ws_printing.specs.Printouts.{printout}
use Rattle.ws_printing.specs.declared.look.Look.{Look}
use Rattle.ws_program.specs.StreamText.{HasShown, showing}
use Rattle.ws_program.specs.Views.{in_look}
use Rattle.ws_program.proofs.show.show_piece.Given as goal

-- the items that are complete with the front of the piece are shown, in any paint and on any page
abbrev pub invariant-loop-used : goal.invariant-loop-used
invariant-loop-used g l = record {
  within : l.used ≤ length l.piece;
  shown : (from : g.row.S.Denot) (look : Look) (bytes : List ℕ)
      → HasShown (printout g.S.Sink.writer from l.fn.sink)
      (showing g.B.Code.rules (in_look g.B.Shown.view g.B.Shown.Ends look)) g.B.Shown.makes bytes l.fn.receiver l.fn.made → length bytes + length l.piece + 1 < 2 ^ 64
      → HasShown (printout g.S.Sink.writer from l.sink)
      (showing g.B.Code.rules (in_look g.B.Shown.view g.B.Shown.Ends look)) g.B.Shown.makes (bytes ++ take l.used l.piece) l.receiver l.made;
}

abbrev pub decreases-loop-used : goal.decreases-loop-used
decreases-loop-used g l = length l.piece - l.used
