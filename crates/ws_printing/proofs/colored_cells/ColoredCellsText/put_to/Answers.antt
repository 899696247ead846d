use Rattle.std.specs.Prelude.{encode_utf8}
use Rattle.std.proofs.Common.{◌≡◌, ◌++◌, ◌∷◌, [], ◌+◌, Option, None, List, ℕ, take, refl, sym, ap, ◌∙◌}
use Rattle.std.proofs.lemmas.List.{take_all, take_more}
use Rattle.ws_text.proofs.Prints.{prints_none, prints_both, prints_same}
use Rattle.ws_printing.specs.ColoredRows.{colored_behind, sequence_behind}
use Rattle.ws_printing.proofs.ColoredCells.{last_attribute, last_attribute_more, colored_more}
use Rattle.ws_printing.proofs.colored_cells.ColoredCellsText.put_to.Goals as goal

pub loop-cell-init : goal.loop-cell-init
loop-cell-init g c = (prints_none g.S.Sink.writer c.args.sink.now c.args.output, refl)

pub loop-cell-preserved : goal.loop-cell-preserved
loop-cell-preserved g c =
    let cells = c.args.self.now.0.now in
    let i = c.loop-cell.cell-index in
    let cell = c.cell-item.result in
    let so_far = c.loop-cell.invariant in
    let front : List ℕ = colored_behind None (take i cells) in
    let next : take i cells ++ cell ∷ [] ≡ take (i + 1) cells = ap (λ z. take i cells ++ z ∷ []) c.cell-item.is
    ∙ sym (take_more cells i cell c.loop-cell-test.true) in
    let text = ap (λ (o : Option ℕ). front ++ (sequence_behind o cell.attribute ++ encode_utf8 cell.character))
    so_far.1 ∙ colored_more None (take i cells) cell ∙ ap (colored_behind None) next in (
      prints_same text (prints_both so_far.0 c.put_to-output.ensures),
      sym (last_attribute_more None (take i cells) cell) ∙ ap (last_attribute None) next,
    )

pub returns : goal.returns
returns g c = prints_both (prints_same
    (ap (colored_behind None) (take_all c.loop-cell.cell-index c.args.self.now.0.now c.loop-cell-test.false))
    c.loop-cell.invariant.0) c.put_to.ensures
