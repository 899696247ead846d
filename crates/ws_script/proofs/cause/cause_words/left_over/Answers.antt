use Rattle.std.proofs.Common.{◌∷◌, subst}
use Rattle.ws_script.specs.cause.Causes.{EndsWith, IsLeft}
use Rattle.ws_script.proofs.CauseTexts.{behind_blank, stands_at}
use Rattle.ws_script.proofs.cause.cause_words.left_over.Goals as goal

pub returns-in-empty-default : goal.returns-in-empty-default
returns-in-empty-default c = λ vocabulary line last left.
    c.no_word.ensures vocabulary line (subst (λ z. EndsWith line (32 ∷ z))
    (rw c.in-empty-default.is-empty-0 at c.first_word.ensures.split) (subst (IsLeft line last) c.in_ok-rest.was left))

pub returns-in_default : goal.returns-in_default
returns-in_default c = λ vocabulary line last left. stands_at line _ _ _
    (behind_blank line _ (subst (IsLeft line last) c.in_ok-rest.was left)) c.first_word.ensures.split
