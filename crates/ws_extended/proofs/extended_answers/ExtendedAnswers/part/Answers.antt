use Rattle.std.proofs.Common.{◌≡◌, ℕ, List, [], ◌∷◌, ap, arith, refl, subst, sym}
use Rattle.ws_code.specs.Code.{IsUnfinished}
use Rattle.ws_stream.proofs.UnfinishedAnswer.{at_goes_on}
use Rattle.ws_extended.specs.ExtendedAnswers.{extended_answer_rules}
use Rattle.ws_extended.specs.declared.extended_answer_place.ExtendedAnswerPlace.TheVariants.{Fields}
use Rattle.ws_extended.proofs.AnswerSteps.{fields_up, part_more}
use Rattle.ws_extended.proofs.extended_answers.ExtendedAnswers.part.Goals as goal

pub returns-then-byte-eq-SET_BUFFER_ADDRESS : goal.returns-then-byte-eq-SET_BUFFER_ADDRESS
returns-then-byte-eq-SET_BUFFER_ADDRESS c =
    let is : c.args.byte ≡ 0x11 = omega arith in
    part_more [] c.args.byte Fields _ _ _ _ _ c.wait_for.ensures.more c.wait_for.ensures.waits refl
    (ap (λ (n : ℕ). let l : List ℕ = n ∷ [] in l) (sym is))
    (subst (λ (n : ℕ). IsUnfinished extended_answer_rules Fields (n ∷ [])) (sym is)
    (fields_up (0x11 ∷ []) at_goes_on))
