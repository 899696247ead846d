use Rattle.std.proofs.Common.{List, [], ◌∷◌, ◌++◌, map, sym, subst}
use Rattle.ws_stream.specs.declared.element.Element.{Element}
use Rattle.ws_stream.specs.declared.element.Element.TheVariants.{Put, Sba, Write}
use Rattle.ws_extended.specs.Carried.{Carries}
use Rattle.ws_extended.specs.ErrorLine.{put_row, row_start}
use Rattle.ws_extended.proofs.Carrying.{carries_both, puts_both}
use Rattle.ws_extended.proofs.error_line.write_cells.Goals as goal

pub returns : goal.returns
returns c =
    let first = c.args.first.now in
    let second = c.args.second.now in
    let start = put_row c.args.row first in
    let new = c.put_bytes.new.screen in
    subst (λ (es : List Element). Carries (Write 0 0 ∷ Sba (row_start c.args.row) ∷ es) c.args.screen.now new)
    (sym (puts_both first second))
    (carries_both (Write 0 0 ∷ []) (start ++ map Put second) c.args.screen.now c.carry.new.screen new
    c.carry.ensures.carried
    (carries_both start (map Put second) c.carry.new.screen c.put_row.new.screen new c.put_row.ensures.carried
    c.put_bytes.ensures.carried))
