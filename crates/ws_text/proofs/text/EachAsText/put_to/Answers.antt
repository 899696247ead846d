use Rattle.std.specs.List.{flat_map}
use Rattle.ws_text.proofs.Common.{◌++◌, ◌∙◌, ap, sym, take, take_all}
use Rattle.ws_text.proofs.Prints.{prints_none, prints_both, prints_same}
use Rattle.ws_text.proofs.Texts.{flat_map_more}
use Rattle.ws_text.proofs.text.EachAsText.put_to.Goals as goal

pub loop-value-init : goal.loop-value-init
loop-value-init g c = prints_none g.S.Sink.writer c.args.sink.now c.args.output

pub loop-value-preserved : goal.loop-value-preserved
loop-value-preserved g c =
    let text = g.X.TextAs.text_as c.args.self.now.1 in
    let values = c.args.self.now.0.now in
    prints_same (ap (λ x. flat_map text (take c.loop-value.value-index values) ++ text x) c.value-item.is
    ∙ sym (flat_map_more text values c.loop-value.value-index c.value-item.result c.loop-value-test.true))
    (prints_both {ys = text c.value-item.result} c.loop-value.invariant c.put_as-output.ensures)

pub returns : goal.returns
returns g c = prints_same (ap (flat_map (g.X.TextAs.text_as c.args.self.now.1)) (take_all _ _ c.loop-value-test.false)) c.loop-value.invariant
