use Rattle.std.proofs.Common.{◌≡◌, ℕ, ◌*◌, ◌-◌, List, ◌++◌, ap₂, ◌∙◌, subst}
use Rattle.ws_screen.specs.Bodies.{after_elements, after_end}
use Rattle.ws_screen.specs.Given.{Gives}
use Rattle.ws_screen.proofs.Applies.{gives_end}
use Rattle.ws_extended.specs.Carried.{Carries}
use Rattle.ws_extended.specs.ErrorLine.{given_back, row_start}
use Rattle.ws_extended.specs.RollParts.{roll_distance}
use Rattle.ws_extended.proofs.Blocks.{bytes_fit, same_bytes}
use Rattle.ws_extended.proofs.StateSteps.{comes_back}
use Rattle.ws_extended.proofs.rolling.roll_rows.Goals as goal

pub returns-clause-rolled : goal.returns-clause-rolled
returns-clause-rolled c = λ h g.
    let r = c.args.roll.now in
    let s = c.args.screen.now in
    let legal = c.top.ensures.legal in
    let size = c.known.ensures.legal.size in
    let columns = c.from-columns.result in
    let bytes : List ℕ = c.moved.result.0.now ++ c.moved.result.1.now in
    let held = c.copy_from_slice.new.self in
    let far : c.from-3.result * columns ≡ roll_distance r * 80 =
    ap₂ (λ (a b : ℕ). a * b) (c.from-3.ensures ∙ c.distance.ensures.value) c.from-columns.ensures in
    let start : (c.from.result - 1) * columns ≡ row_start r.top =
    ap₂ (λ (a b : ℕ). (a - 1) * b) (c.from.ensures ∙ c.top.ensures.value) c.from-columns.ensures in
    let end : c.from-2.result * columns ≡ r.bottom * 80 =
    ap₂ (λ (a b : ℕ). a * b) (c.from-2.ensures ∙ c.bottom.ensures.value) c.from-columns.ensures in
    let copied : held ≡ s.cells = c.copy_from_slice.ensures.after ∙ c.cells.ensures in
    let same = same_bytes r legal h s g size c.is_down.result (c.from-3.result * columns)
    ((c.from.result - 1) * columns) (c.from-2.result * columns) held bytes c.is_down.ensures far start end copied
    c.moved.ensures.moved in
    let fits = bytes_fit r legal h s g size c.is_down.result (c.from-3.result * columns)
    ((c.from.result - 1) * columns) (c.from-2.result * columns) held bytes c.is_down.ensures far start end copied
    c.moved.ensures.moved in
    let carries = subst (λ (n : ℕ). Carries (given_back 0 n bytes) c.end_write.new.self c.write_cells.new.screen)
    c.top-2.ensures.value c.write_cells.ensures in
    subst (λ (l : List ℕ). Gives (after_end (after_elements h (given_back 0 r.top l))) c.end_write-2.new.self) same
    (gives_end (after_elements h (given_back 0 r.top bytes)) c.write_cells.new.screen c.end_write-2.new.self
    (comes_back h s c.end_write.new.self c.write_cells.new.screen 0 r.top bytes g c.end_write.ensures.events
    c.end_write.ensures.legal c.end_write.ensures.closed fits carries) c.end_write-2.ensures.events)
