use Rattle.ws_printing.proofs.Common.{sym, ◌∙◌}
use Rattle.ws_printing.proofs.LastBlanks.{blank_last, shown_last}
use Rattle.ws_printing.proofs.characters.without_last_blanks.Goals as goal

pub loop-last-preserved : goal.loop-last-preserved
loop-last-preserved g c = rw (
  ← blank_last g.T.ShowsCharacter.shows c.in-Some.front.now c.in-Some.last.now
      (sym c.character.ensures ∙ c.if-character-ne32.false),
  ← c.in-Some.ensures.cases.0,
) c.loop-last.invariant

pub returns-then-character-ne32 : goal.returns-then-character-ne32
returns-then-character-ne32 g c = rw (← c.loop-last.invariant, c.in-Some.ensures.cases.0)
    (sym (shown_last g.T.ShowsCharacter.shows c.in-Some.front.now c.in-Some.last.now
    (λ e. c.if-character-ne32.true (c.character.ensures ∙ e))))
