use Rattle.std.proofs.Common.{◌*◌, ◌≤◌, ℕ, List, length}
use Rattle.ws_code.specs.Device.{Gave}
use Rattle.ws_printing.specs.Printouts.{printout}
use Rattle.ws_program.specs.StreamText.{HasShown, showing}
use Rattle.ws_program.specs.Views.{in_look}
use Rattle.ws_program.proofs.show.show_source_to.Given as goal

-- the items of the bytes that were given are shown
abbrev pub invariant-loop : goal.invariant-loop
invariant-loop g l = (bytes : List ℕ) × Gave g.R.Source.reader l.fn.source l.source l.counter bytes
    × HasShown (printout g.S.Sink.writer l.fn.sink l.sink)
    (showing g.B.Code.rules (in_look g.B.Shown.view g.B.Shown.Ends l.look)) g.B.Shown.makes bytes l.receiver l.made
    × (length bytes ≤ 4096 * l.counter)
