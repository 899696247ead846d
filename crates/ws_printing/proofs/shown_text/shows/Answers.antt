use borrow.Author.Count.{below_more}
use Rattle.ws_printing.proofs.Common.{HasSubslice, ◌≤◌, sym, ◌∙◌, arith, append_assoc, row_on_page, text_of_shown}
use Rattle.ws_printing.proofs.shown_text.shows.Goals as goal

pub returns-then-row_shows-clause-shown : goal.returns-then-row_shows-clause-shown
returns-then-row_shows-clause-shown c = λ yes.
    let at = c.row_shows.ensures.shown c.if-row_shows.true in
    record {
      row = c.loop-row.row;
      low = omega (arith, c.loop-row.auto.row);
      high = omega (arith, c.loop-row-test.true, c.loop-row.auto.row-end);
      front = at.0;
      back = at.1;
      is = at.2 ∙ sym (append_assoc at.0 c.args.text.now at.1);
    }

pub loop-row-preserved : goal.loop-row-preserved
loop-row-preserved c = below_more (λ row. 1 ≤ row
    → HasSubslice (text_of_shown (row_on_page c.args.page c.args.screen.now.cells row)) c.args.text.now → ⊥)
    c.loop-row.row c.loop-row.invariant (λ low. c.row_shows.ensures.unshown c.if-row_shows.false)

pub returns-clause-unshown : goal.returns-clause-unshown
returns-clause-unshown c = λ no shown.
    c.loop-row.invariant shown.row (omega (arith, shown.high, c.loop-row-test.false, c.loop-row.auto.row-end)) shown.low
    (shown.front, shown.back, shown.is ∙ append_assoc shown.front c.args.text.now shown.back)
