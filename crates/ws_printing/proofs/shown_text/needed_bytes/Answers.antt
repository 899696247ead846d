use Rattle.ws_printing.proofs.Common.{Contains, ℕ, List, get_or, subst, All-push, Contains-get_or, IsNeededBy}
use Rattle.ws_printing.proofs.shown_text.needed_bytes.Goals.{in-Some, in_default}
use Rattle.ws_printing.proofs.shown_text.needed_bytes.Goals as goal

pub loop-character-preserved : goal.loop-character-preserved
loop-character-preserved c =
    let text = c.args.text.now in
    let bytes = c.as_bytes-character-items.result.now in
    let i = c.loop-character.character-index in
    let character = get_or bytes i 0 in
    let there = subst (λ (z : List ℕ). Contains z character) c.as_bytes-character-items.ensures.value
    (Contains-get_or bytes i 0 c.loop-character-test.true) in
    elim c.match-only_byte.branch [
      | in-Some w ↦ rw (w.needed-is, w.push.ensures.items) (All-push (IsNeededBy c.args.page text)
          c.loop-character.needed.items w.in-Some.byte c.loop-character.invariant (character, there, w.in-Some.ensures))
      | in_default w ↦ rw w.needed-is c.loop-character.invariant
    ]
