use Rattle.std.proofs.Common.{◌≡◌, ℕ, suc, ◌+◌, ◌-◌, ◌≤◌, List, [], ◌++◌, refl, ap, ◌∙◌, arith}
use Rattle.ws_text.proofs.Prints.{prints_none, prints_both, prints_same}
use Rattle.ws_printing.specs.ScreenLines.{line_of_row, rows_text}
use Rattle.ws_printing.specs.declared.look.Look.{Look}
use Rattle.ws_printing.proofs.screen_lines.RowsText.put_to.Goals as goal

no_rows : (look : Look) (cells : List ℕ) → [] ≡ rows_text look cells 0
unfolding rows_text
no_rows look cells = refl

one_more : (look : Look) (cells : List ℕ) (n : ℕ) → rows_text look cells n ++ line_of_row look cells (suc n)
    ≡ rows_text look cells (suc n)
unfolding rows_text
one_more look cells n = refl

rows_more : (look : Look) (cells : List ℕ) (row : ℕ) → 1 ≤ row
    → rows_text look cells (row - 1) ++ line_of_row look cells row ≡ rows_text look cells (row + 1 - 1)
rows_more look cells row low =
    let here : row ≡ suc (row - 1) = omega (arith, low) in
    let next : suc (row - 1) ≡ row + 1 - 1 = omega (arith, low) in
    ap (λ k. rows_text look cells (row - 1) ++ line_of_row look cells k) here ∙ one_more look cells (row - 1)
    ∙ ap (rows_text look cells) next

pub loop-row-init : goal.loop-row-init
loop-row-init g c = prints_same (no_rows c.args.self.now.0 c.args.self.now.1.now.cells)
    (prints_none g.S.Sink.writer c.args.sink.now c.args.output)

pub loop-row-preserved : goal.loop-row-preserved
loop-row-preserved g c = prints_same (rows_more c.args.self.now.0 c.args.self.now.1.now.cells c.loop-row.row
    c.loop-row.auto.row) (prints_both c.loop-row.invariant c.put_row-output.ensures)

pub returns : goal.returns
returns g c =
    let all : c.loop-row.row - 1 ≡ 24 = omega (arith, c.loop-row-test.false, c.loop-row.auto.row-end) in
    prints_same (ap (rows_text c.args.self.now.0 c.args.self.now.1.now.cells) all) c.loop-row.invariant
