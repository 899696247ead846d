use Rattle.std.proofs.Common.{◌≡◌, arith, ap, length, ◌∙◌}
use Rattle.ws_entry.proofs.Cells.{cells_size}
use Rattle.ws_entry.proofs.entering.takes_minus.Goals as goal

pub bounds-field_cells-end : goal.bounds-field_cells-end
bounds-field_cells-end c =
    let size : length c.field_cells.result.now ≡ c.args.field.now.length = ap length c.field_cells.ensures.value
    ∙ cells_size c.args.screen.now c.args.field.now c.known.ensures.legal.size c.requires.within in
    omega (arith, size, c.requires.inside, c.if-end-eq0.false)
