use Rattle.std.proofs.lemmas.List.Elements.{Decides-contains}
use Rattle.ws_printing.proofs.Common.{contains_decides, eqb, get_or, sym, ◌∙◌, false≢true, Decides-eqb, Contains-get_or}
use Rattle.ws_printing.proofs.shown_text.has_all.Goals as goal

pub returns-then-not-contains : goal.returns-then-not-contains
returns-then-not-contains c = λ no.
    let cells = c.args.cells.now in
    let needed = c.args.needed.now in
    let i = c.loop-byte.byte-index in
    let byte = get_or needed i 0 in
    let decides = Decides-contains cells byte c.contains.result
    (contains_decides eqb Decides-eqb cells byte c.contains.result c.contains.ensures.cases) in (
      byte,
      Contains-get_or needed i 0 c.loop-byte-test.true,
      λ there. false≢true (sym c.if-not-contains.true ∙ decides.1 there),
    )
