use Rattle.std.proofs.Common.{refl}
use Rattle.std.proofs.lemmas.List.{take_more}
use Rattle.ws_program.proofs.HexDigits.{looked_more, looked_all, hex_of, not_hex}
use Rattle.ws_program.proofs.hex_text.is_hex.Goals as goal

pub loop-byte-preserved : goal.loop-byte-preserved
loop-byte-preserved c =
    rw (take_more c.args.text.now c.loop-byte.byte-index 0 c.loop-byte-test.true)
    (looked_more _ _ _ _ _ _ c.is_ascii_hexdigit-is_digit.ensures.value c.is_blank.ensures c.loop-byte.invariant)

pub returns-then-is_text-clause-yes : goal.returns-then-is_text-clause-yes
returns-then-is_text-clause-yes c = λ h.
    let l = looked_all c.args.text.now c.loop-byte.byte-index c.loop-byte.is_odd c.loop-byte.is_text
    c.loop-byte-test.false c.loop-byte.invariant in
    hex_of c.args.text.now c.loop-byte.is_odd c.loop-byte.is_text l c.if-is_text.true h

pub returns-then-is_text-clause-no : goal.returns-then-is_text-clause-no
returns-then-is_text-clause-no c = λ h.
    let l = looked_all c.args.text.now c.loop-byte.byte-index c.loop-byte.is_odd c.loop-byte.is_text
    c.loop-byte-test.false c.loop-byte.invariant in
    not_hex c.args.text.now c.loop-byte.is_odd c.loop-byte.is_text l (rw c.if-is_text.true h)

pub returns-else-is_text-clause-no : goal.returns-else-is_text-clause-no
returns-else-is_text-clause-no c = λ h.
    let l = looked_all c.args.text.now c.loop-byte.byte-index c.loop-byte.is_odd c.loop-byte.is_text
    c.loop-byte-test.false c.loop-byte.invariant in
    not_hex c.args.text.now c.loop-byte.is_odd c.loop-byte.is_text l (rw h refl)
