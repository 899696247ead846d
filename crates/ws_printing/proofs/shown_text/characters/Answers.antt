use Rattle.ws_printing.proofs.Common.{encode_utf8, encode_utf8_all, ◌≡◌, ◌+◌, ◌<◌, ◌≤◌, [], ◌∷◌, ◌++◌, ℕ, length, map}
use Rattle.ws_printing.proofs.Common.{take, arith, lit<, sym, ◌∙◌, ap, length-append, map_more, length-encode}
use Rattle.ws_printing.proofs.Common.{len_utf8_bounds, Shown, text-more}
use Rattle.ws_printing.proofs.shown_text.characters.Goals as goal

pub push-requires : goal.push-requires
push-requires c =
    let character = c.cell-item.result.character in
    let fits : length c.loop-cell.text.bytes + length (encode_utf8 character) ≤ 7680 =
    omega (arith, c.loop-cell.invariant.short, length-encode character, len_utf8_bounds character, c.requires) in
    (lit< tt, fits)

pub loop-cell-preserved : goal.loop-cell-preserved
loop-cell-preserved c =
    let shown = c.args.shown.now in
    let index = c.loop-cell.cell-index in
    let item = c.cell-item.result in
    let character : Shown → ℕ = λ s. s.character in
    let front = map character (take index shown) in
    let small : index < length shown = omega arith in
    let more : map character (take (index + 1) shown) ≡ front ++ item.character ∷ [] =
    map_more character shown index item small ∙ ap (λ s. front ++ s.character ∷ []) (sym c.cell-item.is) in
    record {
      so_far = c.push.ensures.bytes ∙ ap (λ text. text ++ encode_utf8 item.character) c.loop-cell.invariant.so_far
          ∙ sym (text-more front item.character) ∙ ap encode_utf8_all (sym more);
      short = omega (
        arith,
        c.loop-cell.invariant.short,
        ap length c.push.ensures.bytes,
        length-append c.loop-cell.text.bytes (encode_utf8 item.character),
        length-encode item.character,
        len_utf8_bounds item.character,
      );
    }
