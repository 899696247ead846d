use Rattle.std.specs.List.{range_with_len}
use Rattle.std.specs.Str.{encode_utf8_all}
use Rattle.std.proofs.Common.{◌-◌, ◌*◌, ◌∙◌, ℕ, List, ap, map}
use Rattle.ws_c.specs.Pages.{char_at, row_chars_on}
use Rattle.ws_c.proofs.page_text.row_on.Goals as goal

pub returns : goal.returns
unfolding row_chars_on
returns c = c.text_on.ensures ∙ ap (λ (cells : List ℕ). encode_utf8_all (map (char_at c.args.page cells)
    (range_with_len ((c.args.row - 1) * 80) 80))) c.cells.ensures
