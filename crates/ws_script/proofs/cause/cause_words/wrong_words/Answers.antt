use Rattle.ws_script.proofs.cause.cause_words.wrong_words.Goals as goal

pub returns : goal.returns
returns c = λ line left.
    c.left_over.ensures c.args.vocabulary line c.loop-kind.last.now (c.loop-kind.invariant.1 line left)
