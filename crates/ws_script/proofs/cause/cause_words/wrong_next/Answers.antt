use Rattle.std.proofs.Common.{subst}
use Rattle.ws_script.specs.cause.Causes.{IsLeft}
use Rattle.ws_script.proofs.cause.cause_words.wrong_next.Goals as goal

pub returns-in-SomeText : goal.returns-in-SomeText
returns-in-SomeText c = λ line left. c.wrong_text.ensures c.args.vocabulary line
    (subst (λ r. IsLeft line c.args.last.now r) c.in-Some.is left)

pub returns-in_default-kind : goal.returns-in_default-kind
returns-in_default-kind c = λ line left. c.word_at.ensures line
    (subst (λ r. IsLeft line c.args.last.now r) c.in-Some.is left)
