-- Cells that are written from one on in a write of their own, as a row that comes back and as a Roll does.
use Rattle.std.proofs.Common.{◌≡◌, ℕ, ◌+◌, ◌-◌, ◌*◌, ◌≤◌, List, [], ◌∷◌, ◌++◌, Bool, true, false, Option, None, length}
use Rattle.std.proofs.Common.{refl, sym, ap, ◌∙◌, subst, arith, map, take, drop, take-append-drop, length-append}
use Rattle.std.proofs.Common.{if◌then◌else◌}
use Rattle.std.proofs.lemmas.List.{append-nil, length-drop, length-take, length-take-le}
use Rattle.ws_stream.specs.declared.element.Element.{Element}
use Rattle.ws_stream.specs.declared.element.Element.TheVariants.{Write, Sba, Put}
use Rattle.ws_screen.specs.Bodies.{after_elements, after_end, body_fault, screen_of}
use Rattle.ws_screen.specs.Events.{History}
use Rattle.ws_screen.specs.Given.{Gives}
use Rattle.ws_screen.specs.ScreenParts.{IsLegal, ScreenParts}
use Rattle.ws_screen.specs.Steps.{after_cc2}
use Rattle.ws_screen.specs.declared.open_write.OpenWrite.{OpenWrite}
use Rattle.ws_screen.proofs.CommandLemmas.{end_follows}
use Rattle.ws_screen.proofs.ScreenLaws.{one_screen}
use Rattle.ws_extended.specs.ErrorLine.{given_back, row_start}
use Rattle.ws_extended.specs.RollParts.{IsRoll, RollParts, roll_distance, rolls_down}
use Rattle.ws_extended.specs.Rolling.{cells_after_roll, moved_down, moved_up, roll_cells, roll_shown, roll_size, rolled}
use Rattle.ws_extended.proofs.ErrorLaws.{carried_locks, write_leads}
use Rattle.ws_extended.proofs.Leads.{Leads, ends_with, leads_none}
use Rattle.ws_extended.proofs.Painting.{painted, puts_lead, sba_leads, write_at}

-- cells with others in them from one on
abbrev pub with_block : ℕ → List ℕ → List ℕ → List ℕ
with_block start bytes cells = take start cells ++ (bytes ++ drop (length bytes) (drop start cells))

-- cells that fit are refused nowhere
pub block_leads : (s : ScreenParts) (cc2 start : ℕ) (bytes : List ℕ) → length s.cells ≡ 1920 → s.writing ≡ None
    → start + length bytes ≤ 1920 → Leads (Write 0 cc2 ∷ Sba start ∷ map Put bytes) s
    (painted s (with_block start bytes s.cells) s.fields (write_at cc2 (start + length bytes)))
block_leads s cc2 start bytes size closed fits =
    let n : ℕ = length bytes in
    let before : List ℕ = take start s.cells in
    let rest : List ℕ = drop start s.cells in
    let behind : List ℕ = drop n rest in
    let new : ScreenParts = painted s (before ++ (bytes ++ behind)) s.fields (write_at cc2 (start + n)) in
    let three : before ++ (take n rest ++ behind) ≡ s.cells =
    ap (λ (l : List ℕ). before ++ l) (take-append-drop n rest) ∙ take-append-drop start s.cells in
    let first : length before ≡ start = length-take-le start s.cells (omega (arith, size, fits)) in
    let left : length rest ≡ length s.cells - start = length-drop start s.cells in
    let same : length (take n rest) ≡ n = length-take-le n rest (omega (arith, left, size, fits)) in
    let all : length before + n + length behind ≡ 1920 =
    omega (arith, first, length-drop n rest, left, size, fits) in
    subst (λ (es : List Element). Leads (Write 0 cc2 ∷ Sba start ∷ es) s new) (append-nil (map Put bytes))
    (write_leads 0 cc2 (Sba start ∷ (map Put bytes ++ [])) s s new closed
    (carried_locks 0 (λ t. refl) (λ f. refl) s)
    (subst (λ (old : List ℕ). Leads (Sba start ∷ (map Put bytes ++ [])) (painted s old s.fields (write_at cc2 0)) new)
    three
    (sba_leads s new (before ++ (take n rest ++ behind)) s.fields cc2 0 start (map Put bytes ++ [])
    (puts_lead s new s.fields cc2 [] bytes (take n rest) before behind start (sym first) same all
    (λ end is. subst
    (λ (a : ℕ). Leads [] (painted s (before ++ (bytes ++ behind)) s.fields (write_at cc2 a)) new)
    (omega (arith, is, first)) (leads_none new))))))

-- rows given back, or written anew, are refused nowhere
pub back_unrefused : (s : ScreenParts) (cc2 row : ℕ) (cells : List ℕ) → IsLegal s → s.writing ≡ None
    → row_start row + length cells ≤ 1920 → (h : History) → Gives h s → body_fault h (given_back cc2 row cells) ≡ None
back_unrefused s cc2 row cells legal closed fits =
    (block_leads s cc2 (row_start row) cells legal.size closed fits).unrefused

-- A ROLL

up_size : (far : ℕ) (cells : List ℕ) → length (moved_up far cells) ≡ length cells
up_size far cells = omega (
  arith,
  length-append (drop far cells) (drop (length cells - far) cells),
  length-drop far cells,
  length-drop (length cells - far) cells,
)

down_size : (far : ℕ) (cells : List ℕ) → length (moved_down far cells) ≡ length cells
down_size far cells = omega (
  arith,
  length-append (take far cells) (take (length cells - far) cells),
  length-take far cells,
  length-take (length cells - far) cells,
)

module _ (r : RollParts) (roll : IsRoll r) (cells : List ℕ) (size : length cells ≡ 1920) where
  -- its rows end on the screen
  pub roll_fits : row_start r.top + roll_size r ≤ 1920
  roll_fits = omega (arith, roll.low, roll.order, roll.high)

  pub rolled_size : length (rolled r cells) ≡ roll_size r
  rolled_size = go (rolls_down r) ∙ length-take-le (roll_size r) (drop (row_start r.top) cells)
      (omega (arith, length-drop (row_start r.top) cells, size, roll_fits))
    where
      go : (down : Bool) → length (if down then moved_down (roll_distance r * 80) (roll_cells r cells)
          else moved_up (roll_distance r * 80) (roll_cells r cells)) ≡ length (roll_cells r cells)
      go true = down_size (roll_distance r * 80) (roll_cells r cells)
      go false = up_size (roll_distance r * 80) (roll_cells r cells)

-- the cells that are written, by their numbers
module _ (r : RollParts) (roll : IsRoll r) (h : History) (s : ScreenParts) (g : Gives h s)
    (size : length s.cells ≡ 1920) (down : Bool) (far start end : ℕ) (held bytes : List ℕ) (way : down ≡ rolls_down r)
    (distance : far ≡ roll_distance r * 80) (first : start ≡ row_start r.top) (last : end ≡ r.bottom * 80)
    (copied : held ≡ s.cells)
    (are : bytes ≡ (if down then moved_down far (take (end - start) (drop start held))
    else moved_up far (take (end - start) (drop start held)))) where
  bytes_here : bytes ≡ rolled r s.cells
  bytes_here =
      let many : end - row_start r.top ≡ roll_size r = omega (arith, last, roll.low, roll.order) in
      rw way at rw distance at rw many at rw first at rw copied at are

  pub same_bytes : bytes ≡ rolled r (screen_of h).cells
  same_bytes = bytes_here ∙ ap (λ (t : ScreenParts). rolled r t.cells) (one_screen h s g size)

  pub bytes_fit : row_start r.top + length bytes ≤ 1920
  bytes_fit = omega (
    arith,
    ap (λ (l : List ℕ). length l) bytes_here,
    rolled_size r roll s.cells size,
    roll_fits r roll s.cells size,
  )

-- a Roll moves the cells of its rows, and changes nothing else
pub roll_gives : (h : History) (s : ScreenParts) → Gives h s → IsLegal s → s.writing ≡ None → (r : RollParts) → IsRoll r
    → Gives (after_end (after_elements h (roll_shown r s.cells))) (record s { cells = cells_after_roll r s.cells })
roll_gives h s given legal closed r roll =
    let bytes : List ℕ = rolled r s.cells in
    let size : length bytes ≡ roll_size r = rolled_size r roll s.cells legal.size in
    let start : ℕ = row_start r.top in
    let new : List ℕ = cells_after_roll r s.cells in
    let mid : ScreenParts = painted s new s.fields (write_at 0 (start + length bytes)) in
    let leads : Leads (roll_shown r s.cells) s mid =
    subst (λ (n : ℕ). Leads (roll_shown r s.cells) s (painted s
    (take start s.cells ++ (bytes ++ drop n (drop start s.cells))) s.fields (write_at 0 (start + length bytes)))) size
    (block_leads s 0 start bytes legal.size closed
    (omega (arith, size, roll_fits r roll s.cells legal.size))) in
    subst (λ (w : Option OpenWrite). Gives (after_end (after_elements h (roll_shown r s.cells)))
    (record s { cells = new; writing = w })) (sym closed)
    (ends_with (roll_shown r s.cells) s mid (record s { cells = new; writing = None }) leads
    (end_follows mid (after_cc2 0 None mid) (write_at 0 (start + length bytes)) refl refl) h given)
