use Rattle.std.proofs.Common.{ℕ, List, [], ◌∷◌, false, ap, arith, refl, subst, sym}
use Rattle.ws_code.specs.Code.{IsUnfinished}
use Rattle.ws_extended.specs.ExtendedAnswers.{extended_answer_rules}
use Rattle.ws_extended.specs.declared.extended_answer_place.ExtendedAnswerPlace.TheVariants.{Beginning}
use Rattle.ws_extended.proofs.AnswerSteps.{front_goes_on, part_more, row_goes_on}
use Rattle.ws_extended.proofs.extended_answers.ExtendedAnswers.head_row.Goals as goal

pub returns-then-byte-eq0 : goal.returns-then-byte-eq0
returns-then-byte-eq0 c =
    let is = c.if-byte-eq0.true in
    part_more [] c.args.byte Beginning _ _ _ _ _ c.wait_for.ensures.more c.wait_for.ensures.waits refl
    (ap (λ (n : ℕ). let l : List ℕ = n ∷ [] in l) (sym is))
    (subst (λ (n : ℕ). IsUnfinished extended_answer_rules Beginning (n ∷ [])) (sym is)
    (front_goes_on false 0 0 (omega arith) refl).1)

pub returns : goal.returns
returns c = part_more [] c.args.byte Beginning _ _ _ _ _ c.wait_for-2.ensures.more c.wait_for-2.ensures.waits refl refl
    (row_goes_on c.args.byte (omega (arith, c.if-byte-eq0.false)) c.if-byte-gt-ROWS.false)
