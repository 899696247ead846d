use Rattle.std.proofs.Common.{sym, ◌∙◌}
use Rattle.std.proofs.lemmas.Bool.{false≢true}
use Rattle.ws_text.proofs.PartialRecords.{no_units_found}
use Rattle.ws_text.proofs.line.finds_units.Goals as goal
use Rattle.ws_text.proofs.line.finds_units.Goals.{in-Units, in_default}

pub returns-after-found-clause-found : goal.returns-after-found-clause-found
returns-after-found-clause-found g c = λ yes. elim c.match-found.branch [
  | in-Units w ↦ (w.in-Units.field-0, rw w.in-Units.is at c.in-Some.ensures)
  | in_default w ↦ absurd (false≢true (sym w.result-is ∙ yes))
]

pub returns-after-found-clause-none : goal.returns-after-found-clause-none
returns-after-found-clause-none g c = λ no units says. elim c.match-found.branch [
  | in-Units w ↦ absurd (false≢true (sym no ∙ w.result-is))
  | in_default w ↦
      no_units_found g.B.Worded.wording c.in-Some.found units w.in_default.not-Units ((c.in-Some.ensures _).0 says)
]
