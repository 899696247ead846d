use Rattle.ws_text.proofs.UnitWords.{no_key}
use Rattle.ws_text.proofs.LineWords.{texts, three_words, no_fill}
use Rattle.ws_text.proofs.element_words.read_key.Goals as goal

pub returns-in_err-read_cell : goal.returns-in_err-read_cell
returns-in_err-read_cell c =
    rw c.from_residual.ensures (λ head h. no_fill (texts c.args.words.now) _ _ _
    (three_words _ _ c.in-len3.len_at_least c.in-len3.len_below) c.in_err-read_cell.ensures head.0 h.0 h.1)

pub returns-in_err-read_byte : goal.returns-in_err-read_byte
returns-in_err-read_byte c =
    rw c.from_residual-in_err-read_byte.ensures (no_key (texts c.args.words.now) _ _ _
    (three_words _ _ c.in-len3.len_at_least c.in-len3.len_below) c.in_err-read_byte.ensures)
