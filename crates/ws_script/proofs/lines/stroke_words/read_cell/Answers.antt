use Rattle.ws_script.proofs.StrokeWords.{cell_text}
use Rattle.ws_script.proofs.lines.stroke_words.read_cell.Goals as goal

pub returns : goal.returns
returns c = cell_text c.args.words.now _ _ c.in_ok-row.ensures.0 c.in_ok-row.ensures.1 c.read_place.result
    c.read_place.ensures
