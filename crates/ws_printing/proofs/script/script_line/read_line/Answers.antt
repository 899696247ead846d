use Rattle.ws_printing.proofs.Common.{[], refl, sym, ◌∙◌, append-nil, comment}
use Rattle.ws_printing.proofs.ScriptWords.{comment_text, is_no_comment}
use Rattle.ws_printing.proofs.Scripts.{line_added}
use Rattle.ws_printing.proofs.script.script_line.read_line.Goals as goal

pub returns-then-is_some : goal.returns-then-is_some
returns-then-is_some c =
    let found = comment_text c.in-Ok.text.now c.strip_prefix.result c.strip_prefix.ensures.cases (sym c.is_some.ensures
    ∙ c.if-is_some.true) in
    ([], (c.in-Ok.ensures.cases.1, comment found.0 (sym c.in-Ok.ensures.cases.0 ∙ found.1) refl), sym (append-nil _))

pub read_word-requires-clause-no_comment : goal.read_word-requires-clause-no_comment
read_word-requires-clause-no_comment c =
    is_no_comment c.in-Ok.text.now c.strip_prefix.result c.strip_prefix.ensures.cases (sym c.is_some.ensures
    ∙ c.if-is_some.false)

pub read_command-requires-clause-no_comment : goal.read_command-requires-clause-no_comment
read_command-requires-clause-no_comment c = λ rest e.
    is_no_comment c.in-Ok.text.now c.strip_prefix.result c.strip_prefix.ensures.cases (sym c.is_some.ensures
    ∙ c.if-is_some.false) rest (c.in-Some.ensures.0 ∙ e)

pub returns-in-None : goal.returns-in-None
returns-in-None c = line_added _ _ c.read_word.result c.in-Ok.ensures.cases.0 c.in-Ok.ensures.cases.1 c.read_word.ensures

pub returns-in-Some : goal.returns-in-Some
returns-in-Some c = line_added _ _ c.read_command.result (sym c.in-Some.ensures.0 ∙ c.in-Ok.ensures.cases.0)
    c.in-Ok.ensures.cases.1 c.read_command.ensures
