use Rattle.std.specs.Prelude.{encode_utf8}
use Rattle.std.specs.Str.{encode_utf8_all}
use Rattle.std.proofs.Common.{◌≡◌, ◌+◌, ◌<◌, ◌≤◌, [], ◌∷◌, ◌++◌, length, map, take, arith, lit<, sym, ◌∙◌, ap, get_or}
use Rattle.std.proofs.Common.{length-append}
use Rattle.std.proofs.lemmas.List.{map_more}
use Rattle.ws_screen.proofs.LineLemmas.{text-more}
use Rattle.ws_c.specs.Texts.{char_shown}
use Rattle.ws_c.proofs.ShortText.{three_bytes}
use Rattle.ws_c.proofs.field_text.characters.Goals as goal

pub push-requires : goal.push-requires
push-requires c =
    let short : _ = three_bytes c.character_of.result c.character_of.ensures.short in
    let fits : length c.loop-byte.text.bytes + length (encode_utf8 c.character_of.result) ≤ 5760 =
    omega (arith, c.loop-byte.invariant.short, c.requires, short) in
    (lit< tt, fits)

pub loop-byte-preserved : goal.loop-byte-preserved
loop-byte-preserved c =
    let page = c.args.page in
    let cells = c.args.cells.now in
    let index = c.loop-byte.byte-index in
    let item = get_or cells index 0 in
    let front = map (char_shown page) (take index cells) in
    let small : index < length cells = omega arith in
    let short : _ = three_bytes c.character_of.result c.character_of.ensures.short in
    let more : map (char_shown page) (take (index + 1) cells) ≡ front ++ char_shown page item ∷ [] =
    map_more (char_shown page) cells index 0 small in
    record {
      so_far = c.push.ensures.bytes ∙ ap (λ text. text ++ encode_utf8 c.character_of.result) c.loop-byte.invariant.so_far
          ∙ ap (λ k. encode_utf8_all front ++ encode_utf8 k) c.character_of.ensures.value
          ∙ sym (text-more front (char_shown page item)) ∙ ap encode_utf8_all (sym more);
      short = omega (
        arith,
        c.loop-byte.invariant.short,
        ap length c.push.ensures.bytes,
        length-append c.loop-byte.text.bytes (encode_utf8 c.character_of.result),
        short,
      );
    }
