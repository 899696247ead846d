use Rattle.std.proofs.Common.{refl}
use Rattle.std.proofs.lemmas.Result.{err_from_is_err_and}
use Rattle.ws_text.specs.Words.{IsHex}
use Rattle.ws_printing.proofs.Scripts.{fault_on}
use Rattle.ws_any_host.specs.AnyLines.{IsSendText}
use Rattle.ws_any_host.proofs.AnyWords.{two_words}
use Rattle.ws_any_host.proofs.any_line.read_sent.Goals as goal

pub returns-in_err-read_hex-in-Some-read_opcode-2-clause-fault : goal.returns-in_err-read_hex-in-Some-read_opcode-2-clause-fault
returns-in_err-read_hex-in-Some-read_opcode-2-clause-fault c =
    let words = c.args.words.now in
    let parts = c.in-Some in
    let read = c.in-Some-read_opcode-2 in
    let p = err_from_is_err_and c.from_residual.result c.from_residual.ensures.1 in
    rw (p.1, p.2) (fault_on (IsHex parts.hex.now) (IsSendText words) c.in_err-read_hex-in-Some-read_opcode-2.field-0.0 (λ none r s.
    (let p = two_words words parts.number.now parts.hex.now parts.ensures.0 parts.ensures.1 r s in none p.1 p.3))
    (λ good. (parts.number.now, parts.hex.now, read.opcode, parts.ensures.0, read.ensures))
    c.in_err-read_hex-in-Some-read_opcode-2.ensures.fault)

pub returns-in-None-read_opcode-2-clause-fault : goal.returns-in-None-read_opcode-2-clause-fault
returns-in-None-read_opcode-2-clause-fault c = (
  refl,
  λ r s.
      let p = two_words c.args.words.now c.in-Some.number.now c.in-Some.hex.now c.in-Some.ensures.0
      c.in-Some.ensures.1 r s in
      c.in-None-read_opcode-2.ensures p.0 p.2,
)
