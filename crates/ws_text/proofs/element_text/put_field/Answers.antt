use Rattle.ws_text.proofs.Common.{ap, [], ◌∷◌, decimal, encode_upper, words_text}
use Rattle.ws_text.proofs.Prints.{prints_both, prints_same}
use Rattle.ws_text.proofs.element_text.put_field.Goals as goal

pub returns : goal.returns
returns g c =
    let words = prints_both c.put_format-output.ensures
    (prints_same (ap words_text c.controls.ensures.value) c.put_words-output.ensures) in
    let attribute = prints_both words (prints_same (ap (λ n. encode_upper (n ∷ [])) c.attribute.ensures.value)
    c.put_hex-output.ensures) in
    let order = prints_both (prints_both attribute c.put_text-output-2.ensures)
    (prints_same (ap decimal c.length.ensures) c.put_number.ensures) in
    prints_both c.put_text-output.ensures order
