use Rattle.std.proofs.Common.{◌∷◌, subst}
use Rattle.ws_script.specs.cause.Causes.{EndsWith}
use Rattle.ws_script.proofs.CauseTexts.{behind_blank, left_by, stands_at}
use Rattle.ws_script.proofs.cause.cause_words.word_at.Goals as goal

pub returns-in-empty-default : goal.returns-in-empty-default
returns-in-empty-default c = λ line e. c.no_word.ensures c.args.vocabulary line (subst (λ z. EndsWith line (32 ∷ z))
    (rw c.in-empty-default.is-empty-0 at c.first_word.ensures.split) e)

pub returns-in-Some : goal.returns-in-Some
returns-in-Some c = λ line e.
    let stands = stands_at line _ _ _ (behind_blank line _ e) c.first_word.ensures.split in
    c.or_tab.ensures c.args.vocabulary line stands (c.in-Some.ensures line stands)

pub returns-in-None : goal.returns-in-None
returns-in-None c = λ line e. left_by line _ _ _ (behind_blank line _ e) c.first_word.ensures.split
