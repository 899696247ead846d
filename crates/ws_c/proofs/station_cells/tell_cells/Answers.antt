use Rattle.std.specs.List.{range_with_len}
use Rattle.std.proofs.Common.{◌≡◌, ℕ, ◌+◌, ◌<◌, List, [], ◌∷◌, ◌++◌, if◌then◌else◌, length, slice_index, map, arith}
use Rattle.std.proofs.Common.{sym, ◌∙◌, ap, refl, subst}
use Rattle.std.proofs.lemmas.List.{take_more_set}
use Rattle.std.proofs.lemmas.List.FromFn.{map-range_with_len_more}
use Rattle.ws_stream.specs.FieldOrder.{is_attribute}
use Rattle.ws_screen.specs.Lines.{attribute_at, shown_at, shown_under}
use Rattle.ws_screen.specs.declared.shown.Shown.{Shown}
use Rattle.ws_screen.proofs.LineLemmas.{attribute_at-more}
use Rattle.ws_c.specs.Calls.{field_index}
use Rattle.ws_c.specs.Cells.{EndsBehind, IsPassed, cell_told}
use Rattle.ws_c.specs.declared.station_cells.CellTold.{CellTold}
use Rattle.ws_c.proofs.FieldIndex.{ends_later, past_on, past_one}
use Rattle.ws_c.proofs.station_cells.tell_cells.Goals as goal
use Rattle.ws_c.proofs.station_cells.tell_cells.Goals.{in-Some, in_default}

pub loop-index-preserved : goal.loop-index-preserved
loop-index-preserved c =
    let screen = c.args.screen.now in
    let cells = screen.cells in
    let ahead = c.loop-index.ahead.now in
    let index = c.loop-index.index in
    let place = c.args.first + index in
    let held = c.loop-index.invariant in
    let new = c.tell_cell.new.cell in
    let byte = slice_index c.cells-bytes.result.now place in
    let held_byte = slice_index cells place in
    let byte_is : byte ≡ held_byte = ap (λ (l : List ℕ). slice_index l place) c.cells-bytes.ensures in
    let inside : place < length cells = omega (arith, c.known.ensures.legal.size, c.requires.within) in
    let next : place + 1 ≡ c.args.first + (index + 1) = omega arith in
    let here : c.show-shown.result.0 ≡ shown_at cells place =
    c.show-shown.ensures.value ∙ ap (λ a. shown_under a byte) held.in_force
    ∙ ap (shown_under (attribute_at cells place)) byte_is in
    let field : c.index_at.result ≡ field_index screen.fields place =
    c.index_at.ensures ∙ sym (held.past.same place (omega arith)) in
    let told : Shown → ℕ → ℕ → CellTold = λ s f b. record {
      character = s.character;
      field = f;
      byte = b;
      attribute = s.attribute;
    } in
    let is : new ≡ cell_told screen place = c.tell_cell.ensures ∙ ap (λ s. told s c.index_at.result byte) here
    ∙ ap (λ f. told (shown_at cells place) f byte) field
    ∙ ap (told (shown_at cells place) (field_index screen.fields place)) byte_is in
    record {
      told = take_more_set c.loop-index.cells index new (omega arith)
          ∙ ap (λ (front : List CellTold). front ++ new ∷ []) held.told
          ∙ ap (λ (s : CellTold). map (cell_told screen) (range_with_len c.args.first index) ++ s ∷ []) is
          ∙ sym (map-range_with_len_more (cell_told screen) c.args.first index place refl);
      past = elim c.match-passed.branch [
        | in-Some w ↦ rw (w.field-is, w.ahead-is) (past_one screen.fields ahead w.in-Some.behind.now place _
            c.loop-index.field held.past (omega arith)
            (subst (λ (z : ℕ). IsPassed z ahead w.in-Some.behind.now) next w.in-Some.ensures))
        | in_default w ↦ rw (w.field-is, w.ahead-is)
            (past_on screen.fields ahead place _ c.loop-index.field held.past (omega arith))
      ];
      behind = elim c.match-passed.branch [
        | in-Some w ↦ rw w.ahead-is (ends_later ahead w.in-Some.behind.now place _ (omega arith) held.past.in_order
            held.behind (subst (λ (z : ℕ). IsPassed z ahead w.in-Some.behind.now) next w.in-Some.ensures))
        | in_default w ↦ rw w.ahead-is (subst (λ (z : ℕ). EndsBehind z ahead) next w.in_default.ensures)
      ];
      in_force = c.show-shown.ensures.behind
          ∙ ap (λ b. if is_attribute b then b else c.loop-index.attribute) byte_is
          ∙ ap (λ a. if is_attribute held_byte then held_byte else a) held.in_force
          ∙ sym (attribute_at-more cells place inside) ∙ ap (attribute_at cells) next;
    }
