use Rattle.ws_script.proofs.cause.cause_words.has_tab.Goals as goal

pub returns-in-Some : goal.returns-in-Some
returns-in-Some c = λ yes. (_, _, c.in-Some.ensures.0)
