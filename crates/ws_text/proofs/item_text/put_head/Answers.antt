use Rattle.ws_text.proofs.Common.{◌∙◌, ap, arith, decimal, encode_upper}
use Rattle.ws_text.proofs.Prints.{prints_both, prints_same}
use Rattle.ws_text.proofs.Texts.{two_bytes_of}
use Rattle.ws_text.proofs.item_text.put_head.Goals as goal

pub returns : goal.returns
returns g c =
    let place = prints_both c.put_text-output.ensures c.put_number-output.ensures in
    let flags = prints_both (prints_both place c.put_text-output-2.ensures)
    (prints_same (ap encode_upper (c.to_be_bytes.ensures ∙ two_bytes_of c.args.head.now.flags (omega arith)))
    c.put_hex-output.ensures) in
    prints_both (prints_both flags c.put_text-output-3.ensures)
    (prints_same (ap decimal c.byte.ensures) c.put_number.ensures)
