use Rattle.std.proofs.Common.{[], ◌∷◌, refl}
use Rattle.ws_extended.specs.declared.extended_answer_place.ExtendedAnswerPlace.TheVariants.{Beginning}
use Rattle.ws_extended.proofs.AnswerSteps.{column_goes_on, part_more}
use Rattle.ws_extended.proofs.extended_answers.ExtendedAnswers.head_column.Goals as goal

pub returns-in-Some : goal.returns-in-Some
returns-in-Some c =
    let found : _ = column_goes_on c.args.row c.args.byte c.in-Some.cursor c.in-Some.ensures.0 c.in-Some.ensures.1 in
    part_more (c.args.row ∷ []) c.args.byte Beginning _ _ _ _ _ c.wait_for.ensures.more c.wait_for.ensures.waits refl
    found.0 found.1
