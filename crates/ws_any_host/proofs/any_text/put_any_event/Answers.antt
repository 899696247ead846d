use Rattle.std.proofs.Common.{◌<◌, ◌^◌, ◌∙◌, arith}
use Rattle.ws_text.proofs.Texts.{two_bytes_of}
use Rattle.ws_any_host.proofs.any_text.put_any_event.Goals as goal

pub returns-in-Ready : goal.returns-in-Ready
returns-in-Ready g c = rw (c.in-Ready.is, ← c.as_slice.ensures.value) c.put_to.ensures

pub returns-in-Record : goal.returns-in-Record
returns-in-Record g c =
    let flags = c.in-Record.record.flags in
    let fits : flags < 2 ^ 16 = omega arith in
    let bytes = c.to_be_bytes-flags.ensures ∙ two_bytes_of flags fits in
    rw c.in-Record.is (rw (bytes, c.byte.ensures, c.as_slice-in-Record.ensures) at c.put_to-in-Record.ensures)
