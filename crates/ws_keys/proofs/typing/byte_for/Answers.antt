use Rattle.std.proofs.Common.{◌≡◌, Some, sym, ap, true, ◌∙◌}
use Rattle.ws_code.specs.Ebcdic.{byte_of}
use Rattle.ws_code.specs.FormatWord.{shift_of}
use Rattle.ws_keys.specs.Keys.{allows, as_entered}
use Rattle.ws_keys.proofs.StepLemmas.{taken}
use Rattle.ws_keys.proofs.typing.byte_for.Goals as goal

pub returns-in-Some : goal.returns-in-Some
returns-in-Some c =
    let has : byte_of (as_entered c.args.field.now c.args.character) ≡ Some c.in-Some.byte =
    ap byte_of (sym c.as_entered.ensures) ∙ sym c.from_char.ensures.value ∙ c.in-Some.is in
    let lets : allows (shift_of c.args.field.now.format) c.args.character ≡ true =
    ap (λ s. allows s c.args.character) (sym c.shift.ensures) ∙ sym c.allows.ensures ∙ c.if-not-allows.false in
    taken c.args.screen.now c.args.field.now c.args.character c.in-Some.byte has lets
    (sym c.at_sign.ensures ∙ c.if-at_sign.false)
