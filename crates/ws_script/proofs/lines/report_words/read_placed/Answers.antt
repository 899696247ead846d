use Rattle.ws_script.proofs.StrokeWords.{no_column_word, placed_words}
use Rattle.ws_script.proofs.lines.report_words.read_placed.Goals as goal

pub returns-in_err-column : goal.returns-in_err-column
returns-in_err-column c = rw c.from_residual-in_err-column.ensures (λ cell rest m. no_column_word c.args.words.now cell
    rest m _ _ c.in_ok-row.ensures.0 c.in_ok-row.ensures.1 c.in_err-column.ensures)

pub returns-in_err-cell : goal.returns-in_err-cell
returns-in_err-cell c = rw c.from_residual-in_err-cell.ensures (λ cell rest m. c.in_err-cell.ensures cell (placed_words
    c.args.words.now cell rest m _ _ c.in_ok-row.ensures.0 c.in_ok-row.ensures.1 _ _ c.in_ok-column.ensures.0
    c.in_ok-column.ensures.1).0)
