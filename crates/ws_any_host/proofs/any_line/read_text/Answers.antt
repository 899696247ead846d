use Rattle.std.proofs.Common.{sym, ◌∙◌, inl}
use Rattle.std.proofs.lemmas.Result.{err_from_is_err_and}
use Rattle.ws_printing.proofs.ScriptWords.{is_no_comment}
use Rattle.ws_printing.proofs.Scripts.{fault_on}
use Rattle.ws_any_host.specs.AnyLines.{IsSendText, MeansAnyLine}
use Rattle.ws_any_host.proofs.AnyWords.{sends_only}
use Rattle.ws_any_host.proofs.any_line.read_text.Goals as goal

pub read_word-requires-clause-no_comment : goal.read_word-requires-clause-no_comment
read_word-requires-clause-no_comment c = is_no_comment c.args.text.now c.strip_prefix.result
    c.strip_prefix.ensures.cases (sym c.is_some.ensures ∙ c.if-is_some.false)

pub returns-in_err-read_sent-in-Some-clause-fault : goal.returns-in_err-read_sent-in-Some-clause-fault
returns-in_err-read_sent-in-Some-clause-fault c =
    let words = c.in-Some.words.now in
    let p = err_from_is_err_and c.from_residual.result c.from_residual.ensures.1 in
    rw (p.1, p.2) (fault_on (IsSendText words) (MeansAnyLine c.args.text.now) c.in_err-read_sent-in-Some.field-0.0
    (sends_only c.args.text.now words c.in-Some.ensures) (λ begun. inl (words, c.in-Some.ensures, begun))
    c.in_err-read_sent-in-Some.ensures.fault)
