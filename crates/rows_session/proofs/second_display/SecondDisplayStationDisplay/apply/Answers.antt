use Rattle.std.proofs.Common.{arith, refl, true, List, ℕ, ◌≡◌}
use Rattle.std.proofs.lemmas.Grind.{common_steps}
use Rattle.ws_record.specs.Encode.{plain_spelling}
use Rattle.ws_stream.specs.AnswerParts.{answer_rules}
use Rattle.rows_session.specs.SecondDisplay.{answered}
use Rattle.rows_session.proofs.second_display.SecondDisplayStationDisplay.apply.Goals as goal

pub returns-clause-applied : goal.returns-clause-applied
returns-clause-applied c = rw (← c.self.view_is) (λ side units chain kept given.
    let told : c.try_extend_from_slice.new.self.items ≡ plain_spelling answer_rules answered =
    grind (arith, common_steps) in (
      record side { happened = record side.happened { told = plain_spelling answer_rules answered; rings = true } },
      answered,
      refl,
      told,
      refl,
      record { shown = given.shown; told = told; rings = refl },
    ))
