use Rattle.std.specs.Prelude.{sum_by}
use Rattle.std.proofs.Common.{◌≡◌, ◌==◌, true, false, length, if◌then◌else◌, sym, ap, ◌∙◌}
use Rattle.ws_keys.specs.Contents.{sent_length}
use Rattle.ws_keys.proofs.FittingLaws as Laws
use Rattle.ws_keys.proofs.fitting.fits_input.Goals as goal

pub returns-else-is_empty : goal.returns-else-is_empty
returns-else-is_empty c =
    let fields = c.args.screen.now.fields in
    let parts = c.args.parts.now in
    let are_bytes = sym c.are_bytes.ensures ∙ c.if-not-are_bytes.false in
    let some : (length parts == 0) ≡ false = sym c.is_empty.ensures ∙ c.if-is_empty.false in
    let sum : c.sent_by.result ≡ sum_by sent_length fields =
    c.sent_by.ensures ∙ ap (sum_by sent_length) (c.as_slice.ensures.value ∙ c.fields-fields.ensures.fields) in
    ap (λ n. length parts == n) sum
    ∙ sym (Laws.fits_input fields parts are_bytes
    ∙ ap (λ t. if t then true else length parts == sum_by sent_length fields) some)
