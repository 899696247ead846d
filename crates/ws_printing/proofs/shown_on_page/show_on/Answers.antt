use Rattle.std.proofs.lemmas.List.FromFn.{map-range_with_len_more}
use Rattle.ws_printing.proofs.Common.{attribute_at-more, range_with_len, if◌then◌else◌, take_more_set, common_steps}
use Rattle.ws_printing.proofs.Common.{is_attribute, attribute_at, slice_index, shown_under, shown_at, shown_on, on_page}
use Rattle.ws_printing.proofs.Common.{length, arith, Shown, ◌++◌, refl, ◌≡◌, ◌+◌, ◌<◌, ◌∷◌, map, sym, ◌∙◌, [], ap}
use Rattle.ws_printing.proofs.shown_on_page.show_on.Goals as goal

pub loop-index-preserved : goal.loop-index-preserved
loop-index-preserved c =
    let page = c.args.page in
    let cells = c.args.cells.now in
    let index = c.loop-index.index in
    let at = c.args.first + index in
    let byte = slice_index cells at in
    let new = c.on_page.result in
    let inside : at < length cells = omega arith in
    let next : c.args.first + (index + 1) ≡ at + 1 = omega arith in
    let written : _ = take_more_set c.loop-index.shown index new (omega arith) in
    let here : c.show-here.result.0 ≡ shown_at cells at =
    c.show-here.ensures.value ∙ ap (λ a. shown_under a byte) c.loop-index.invariant.in_force in
    let is : new ≡ shown_on page cells at = c.on_page.ensures ∙ ap (on_page page byte) here in
    record {
      done = written ∙ ap (λ front. front ++ new ∷ []) c.loop-index.invariant.done
          ∙ ap (λ (s : Shown). map (shown_on page cells) (range_with_len c.args.first index) ++ s ∷ []) is
          ∙ sym (map-range_with_len_more (shown_on page cells) c.args.first index at refl);
      in_force = c.show-here.ensures.behind
          ∙ ap (λ a. if is_attribute byte then byte else a) c.loop-index.invariant.in_force
          ∙ sym (attribute_at-more cells at inside) ∙ ap (attribute_at cells) (sym next);
    }

pub loop-index-init : goal.loop-index-init
loop-index-init c = grind (arith, common_steps)
