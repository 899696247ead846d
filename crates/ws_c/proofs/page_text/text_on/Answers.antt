use Rattle.std.specs.List.{range_with_len}
use Rattle.std.specs.Prelude.{encode_utf8}
use Rattle.std.specs.Str.{encode_utf8_all}
use Rattle.std.proofs.Common.{◌≡◌, ◌+◌, ◌<◌, ◌≤◌, [], ◌∷◌, ◌++◌, if◌then◌else◌, length, slice_index, map, arith}
use Rattle.std.proofs.Common.{lit<, sym, ◌∙◌, ap, refl, length-append}
use Rattle.std.proofs.lemmas.List.FromFn.{map-range_with_len_more}
use Rattle.ws_stream.specs.FieldOrder.{is_attribute}
use Rattle.ws_screen.specs.Lines.{attribute_at, shown_at, shown_under}
use Rattle.ws_screen.specs.declared.shown.Shown.{Shown}
use Rattle.ws_screen.proofs.LineLemmas.{attribute_at-more, text-more}
use Rattle.ws_c.specs.Pages.{char_at, char_seen}
use Rattle.ws_c.proofs.ShortText.{three_bytes}
use Rattle.ws_c.proofs.page_text.text_on.Goals as goal

pub push-requires : goal.push-requires
push-requires c =
    let short : _ = three_bytes c.seen.result (c.seen.ensures.short c.show-shown.ensures.latin) in
    let fits : length c.loop-column.text.bytes + length (encode_utf8 c.seen.result) ≤ 240 =
    omega (arith, c.loop-column.invariant.short, c.requires.short, short) in
    (lit< tt, fits)

pub loop-column-preserved : goal.loop-column-preserved
loop-column-preserved c =
    let page = c.args.page in
    let cells = c.args.cells.now in
    let first = c.args.first in
    let column = c.loop-column.column in
    let place = first + column in
    let held = c.loop-column.invariant in
    let byte = slice_index cells place in
    let inside : place < length cells = omega arith in
    let next : place + 1 ≡ first + (column + 1) = omega arith in
    let short : _ = three_bytes c.seen.result (c.seen.ensures.short c.show-shown.ensures.latin) in
    let front = map (char_at page cells) (range_with_len first column) in
    let here : c.show-shown.result.0 ≡ shown_at cells place =
    c.show-shown.ensures.value ∙ ap (λ a. shown_under a byte) held.in_force in
    let is : c.seen.result ≡ char_at page cells place =
    c.seen.ensures.value ∙ ap (λ (s : Shown). char_seen page s byte) here in
    let more : front ++ char_at page cells place ∷ [] ≡ map (char_at page cells) (range_with_len first (column + 1)) =
    sym (map-range_with_len_more (char_at page cells) first column place refl) in
    record {
      so_far = c.push.ensures.bytes ∙ ap (λ text. text ++ encode_utf8 c.seen.result) held.so_far
          ∙ ap (λ k. encode_utf8_all front ++ encode_utf8 k) is
          ∙ sym (text-more front (char_at page cells place)) ∙ ap encode_utf8_all more;
      short = omega (
        arith,
        held.short,
        ap length c.push.ensures.bytes,
        length-append c.loop-column.text.bytes (encode_utf8 c.seen.result),
        short,
      );
      in_force = c.show-shown.ensures.behind
          ∙ ap (λ a. if is_attribute byte then byte else a) held.in_force
          ∙ sym (attribute_at-more cells place inside) ∙ ap (attribute_at cells) next;
    }
