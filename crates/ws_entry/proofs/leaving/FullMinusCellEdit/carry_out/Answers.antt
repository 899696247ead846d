use Rattle.std.proofs.Common.{ℕ, List, length, sym, subst}
use Rattle.ws_screen.specs.ScreenParts.{IsClean}
use Rattle.ws_entry.proofs.Cells.{clean_minus}
use Rattle.ws_entry.proofs.leaving.FullMinusCellEdit.carry_out.Goals as goal

pub returns-else-is_signed-clause-clean : goal.returns-else-is_signed-clause-clean
returns-else-is_signed-clause-clean c = λ clean. let P : List ℕ → Type 0 = λ l. IsClean l in
    subst P (sym c.put_minus.ensures) (clean_minus c.args.cells.now (length c.args.cells.now) clean)
