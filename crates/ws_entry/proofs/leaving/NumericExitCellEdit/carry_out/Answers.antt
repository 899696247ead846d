use Rattle.std.proofs.Common.{ℕ, List, sym, subst}
use Rattle.ws_screen.specs.ScreenParts.{IsClean}
use Rattle.ws_keys.specs.Edits.{after_exit}
use Rattle.ws_keys.proofs.CleanLemmas.{clean-exit}
use Rattle.ws_entry.proofs.Cells.{clean_minus}
use Rattle.ws_entry.proofs.leaving.NumericExitCellEdit.carry_out.Goals as goal

pub returns-clause-clean : goal.returns-clause-clean
returns-clause-clean c = λ clean.
    let at = c.args.self.now.at in
    let w = c.args.self.now.format in
    let P : List ℕ → Type 0 = λ l. IsClean l in
    let Q : List ℕ → Type 0 = λ l. IsClean (after_exit w l at) in
    subst P (sym c.exit.ensures) (subst Q (sym c.put_minus.ensures)
    (clean-exit w _ at (clean_minus c.args.cells.now at clean)))
