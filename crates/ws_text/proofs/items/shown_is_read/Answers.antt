use Rattle.ws_text.proofs.ShownElements.{shown_answers_read, shown_extended_read, shown_read}
use Rattle.ws_text.proofs.ShownTold.{shown_told_read}
use Rattle.ws_text.proofs.items.shown_is_read.Goals as goal

pub returns-clause-elements : goal.returns-clause-elements
returns-clause-elements c = shown_read

pub returns-clause-answers : goal.returns-clause-answers
returns-clause-answers c = shown_answers_read

pub returns-clause-extended : goal.returns-clause-extended
returns-clause-extended c = shown_extended_read

pub returns-clause-told : goal.returns-clause-told
returns-clause-told c = shown_told_read
