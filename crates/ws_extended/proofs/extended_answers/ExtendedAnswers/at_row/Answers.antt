use Rattle.std.proofs.Common.{[], ◌∷◌, refl, arith}
use Rattle.ws_stream.proofs.UnfinishedAnswer.{at_row_goes_on}
use Rattle.ws_extended.specs.declared.extended_answer_place.ExtendedAnswerPlace.TheVariants.{Fields}
use Rattle.ws_extended.proofs.AnswerSteps.{fields_up, part_more}
use Rattle.ws_extended.proofs.extended_answers.ExtendedAnswers.at_row.Goals as goal

pub returns : goal.returns
returns c = part_more (0x11 ∷ []) c.args.byte Fields _ _ _ _ _ c.wait_for.ensures.more c.wait_for.ensures.waits refl
    refl (fields_up (0x11 ∷ c.args.byte ∷ [])
    (at_row_goes_on c.args.byte (omega arith) (omega arith)))
