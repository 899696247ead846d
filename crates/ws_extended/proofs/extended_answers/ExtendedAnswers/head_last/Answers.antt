use Rattle.std.proofs.Common.{◌≡◌, ℕ, List, [], ◌∷◌, ◌++◌, ap, ◌∙◌, refl, subst, sym}
use Rattle.ws_code.specs.Code.{IsUnfinished}
use Rattle.ws_stream.specs.Elements.{row_and_column}
use Rattle.ws_extended.specs.ExtendedAnswers.{extended_answer_rules}
use Rattle.ws_extended.specs.declared.extended_answer_place.ExtendedAnswerPlace.TheVariants.{Beginning}
use Rattle.ws_extended.proofs.AnswerSteps.{part_more, saved_goes_on}
use Rattle.ws_extended.proofs.extended_answers.ExtendedAnswers.head_last.Goals as goal

pub returns-then-begins_saved : goal.returns-then-begins_saved
returns-then-begins_saved c =
    let yes : _ = c.begins_saved.ensures.yes c.if-begins_saved.true in
    let bytes : row_and_column c.args.cursor ++ c.args.byte ∷ [] ≡ 0x04 ∷ 0x12 ∷ 0x04 ∷ [] =
    ap (λ (n : ℕ). row_and_column n ++ c.args.byte ∷ []) yes.1
    ∙ ap (λ (n : ℕ). row_and_column 257 ++ n ∷ []) yes.0 in
    part_more (row_and_column c.args.cursor) c.args.byte Beginning _ _ _ _ _ c.wait_for.ensures.more
    c.wait_for.ensures.waits refl (sym bytes)
    (subst (λ (l : List ℕ). IsUnfinished extended_answer_rules Beginning l) (sym bytes) saved_goes_on)
