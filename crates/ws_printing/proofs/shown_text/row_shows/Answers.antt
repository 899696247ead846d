use Rattle.ws_printing.proofs.Common.{sym, ◌∙◌, false≢true, All-contains, contains_text, IsNeededBy}
use Rattle.ws_printing.proofs.ShownTexts.{needed_there}
use Rattle.ws_printing.proofs.shown_text.row_shows.Goals as goal

pub returns-then-not-has_all-clause-unshown : goal.returns-then-not-has_all-clause-unshown
returns-then-not-has_all-clause-unshown c = λ no found.
    let text = c.args.text.now in
    let lacks = c.has_all.ensures c.if-not-has_all.true in
    lacks.2 (rw c.row_bytes.ensures (needed_there c.args.page c.args.screen.now.cells text c.args.row lacks.0 c.requires.low c.requires.high
    c.known.ensures.legal.size
    (All-contains (IsNeededBy c.args.page text) c.args.needed.now lacks.0 c.requires.needed lacks.1) found))

pub returns-clause-shown : goal.returns-clause-shown
returns-clause-shown c = λ yes. rw (c.as_str.ensures.value, c.characters.ensures, c.row_on.ensures) at
    ((contains_text c.contains.result c.args.text.now c.as_str.result.now c.contains.ensures.cases).0 yes)

pub returns-clause-unshown : goal.returns-clause-unshown
returns-clause-unshown c = λ no found. false≢true (sym no
    ∙ (contains_text c.contains.result c.args.text.now c.as_str.result.now c.contains.ensures.cases).1
    (rw (c.as_str.ensures.value, c.characters.ensures, c.row_on.ensures) found))
