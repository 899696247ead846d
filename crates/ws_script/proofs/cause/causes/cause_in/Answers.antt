use Rattle.std.proofs.Common.{subst, refl}
use Rattle.ws_script.specs.cause.Causes.{IsTextOf, front_of}
use Rattle.ws_script.proofs.CauseTexts.{begins_with, left_by, of_line, stands_at}
use Rattle.ws_script.proofs.cause.causes.cause_in.Goals as goal

pub returns-in-empty-default : goal.returns-in-empty-default
returns-in-empty-default c = c.no_first.ensures c.args.vocabulary c.args.line.now
    (subst (IsTextOf c.args.vocabulary c.args.line.now) (rw c.in-empty-default.is-empty-0 at c.first_word.ensures.split)
    c.requires)

pub returns-in-None : goal.returns-in-None
returns-in-None c = c.unknown.ensures c.args.line.now
    (c.args.text.now, c.requires, begins_with _ _ _ c.first_word.ensures.no_blank c.first_word.ensures.split)
    (stands_at c.args.line.now _ _ _ (front_of c.args.vocabulary, c.requires) c.first_word.ensures.split)
    (rw (← c.kinds_after.ensures, c.in-None.is) refl)

pub returns-in-Some-wrong_words : goal.returns-in-Some-wrong_words
returns-in-Some-wrong_words c = of_line c.args.vocabulary c.args.line.now c.in-Some-wrong_words.cause
    (c.in-Some-wrong_words.ensures c.args.line.now (left_by c.args.line.now _ _ _
    (front_of c.args.vocabulary, c.requires) c.first_word.ensures.split))
