-- The screen after edits of one field, one after another.
use Rattle.std.specs.List.{range_with_len}
use Rattle.std.specs.Option.{option_map, option_map_or}
use Rattle.std.specs.Prelude.{nat_lt, nat_le}
use Rattle.std.proofs.Common.{◌≡◌, ℕ, ◌+◌, ◌-◌, ◌<◌, ◌≤◌, List, [], ◌∷◌, ◌++◌, Bool, true, false, Some, None, length}
use Rattle.std.proofs.Common.{if◌then◌else◌, unwrap_or, refl, sym, ap, ◌∙◌, arith, map, find, get_or, take, drop}
use Rattle.std.proofs.Common.{slice_index, length-append, length-drop, ◌&&◌, not, replicate}
use Rattle.std.proofs.Math.Seq.{take-append_seam, drop-append_seam}
use Rattle.std.proofs.lemmas.Bool.{eq-eqb, and_parts, leb-true, ltb-true}
use Rattle.std.proofs.lemmas.List.{same_lists, append_assoc, get_or_default, get_or-take, get_or-drop, length-take-le}
use Rattle.std.proofs.lemmas.List.{get_or_append_left, get_or-append_right}
use Rattle.std.proofs.lemmas.List.FromFn.{get_or-map-range_with_len, length-map-range_with_len}
use borrow.Author.Tests.{leb-false}
use Rattle.ws_code.specs.FormatWord.{with_mdt, is_modified, shift_number}
use Rattle.ws_screen.specs.Formats.{starts_at}
use Rattle.ws_screen.specs.Keyed.{after_edit, cursor_edit, field_edit, cells_of, open_field, only_open, with_mdt_by}
use Rattle.ws_screen.specs.ScreenParts.{AreApart, ScreenParts, holds, is_non_bypass}
use Rattle.ws_screen.specs.declared.field.Field.{Field}
use Rattle.ws_screen.proofs.EditLemmas.{found_low, replaced}
use Rattle.ws_screen.proofs.FormatLemmas.{bypass-with_mdt, with_mdt-twice, with_mdt-same}
use Rattle.ws_screen.proofs.Legal.{zeros}
use Rattle.ws_keys.specs.Strokes.{erasing_edit}

-- two screens whose cells are said by place
same_cells : (at to : ℕ → ℕ) → ((c : ℕ) → c < 1920 → at c ≡ to c) → map at (range_with_len 0 1920)
    ≡ map to (range_with_len 0 1920)
same_cells at to same = same_lists _ _
    (length-map-range_with_len at 0 1920 ∙ sym (length-map-range_with_len to 0 1920))
    (λ k d small. here k d (omega (arith, small, length-map-range_with_len at 0 1920)))
  where
    here : (k d : ℕ) → k < 1920 → get_or (map at (range_with_len 0 1920)) k d
        ≡ get_or (map to (range_with_len 0 1920)) k d
    here k d small = get_or-map-range_with_len at 0 1920 k k d small (omega arith) ∙ same k small
        ∙ sym (get_or-map-range_with_len to 0 1920 k k d small (omega arith))

-- the cells as they are
own_cells : (cells : List ℕ) → length cells ≡ 1920 → map (λ c. slice_index cells c) (range_with_len 0 1920) ≡ cells
own_cells cells size = same_lists _ cells (length-map-range_with_len (λ c. slice_index cells c) 0 1920 ∙ sym size)
    (λ k d small. here k d (omega (arith, small, length-map-range_with_len (λ c. slice_index cells c) 0 1920)))
  where
    here : (k d : ℕ) → k < 1920 → get_or (map (λ c. slice_index cells c) (range_with_len 0 1920)) k d ≡ get_or cells k d
    here k d small = get_or-map-range_with_len (λ c. slice_index cells c) 0 1920 k k d small (omega arith)
        ∙ get_or_default cells k 0 d (omega (arith, size))

own_fields : (fs : List Field) → map (with_mdt_by (λ a. None)) fs ≡ fs
own_fields [] = refl
own_fields (f ∷ fs) = rw (with_mdt-same f.format) (ap (λ l. f ∷ l) (own_fields fs))

-- only the cursor moves
pub moved_alone : (s : ScreenParts) (to : ℕ) → length s.cells ≡ 1920
    → after_edit (cursor_edit to) s ≡ record s { cursor = to }
moved_alone s to size = rw (own_cells s.cells size, own_fields s.fields) refl

-- A FIELD WITH OTHER CELLS

-- the screen once a field has these cells and its MDT is on, and the cursor stands there
abbrev pub edited : ScreenParts → Field → ℕ → List ℕ → ScreenParts
edited s f to x = after_edit (field_edit f x to) s

pub edited_size : (s : ScreenParts) (f : Field) (to : ℕ) (x : List ℕ) → length (edited s f to x).cells ≡ 1920
edited_size s f to x = length-map-range_with_len
    (λ c. unwrap_or (if holds f c then Some (slice_index x (c - f.start)) else None) (slice_index s.cells c)) 0 1920

-- the field then
abbrev pub marked : Field → Field
marked f = record f { format = with_mdt f.format true }

pub shift_marked : (w : ℕ) → shift_number (with_mdt w true) ≡ shift_number w
shift_marked w = omega arith

-- the MDTs of a field's edit, once more
marked_twice : (f : Field) (fs : List Field) → map (with_mdt_by (λ a. if starts_at a f then Some true else None))
    (map (with_mdt_by (λ a. if starts_at a f then Some true else None)) fs)
    ≡ map (with_mdt_by (λ a. if starts_at a f then Some true else None)) fs
marked_twice f [] = refl
marked_twice f (g ∷ gs) = rw (one (starts_at g.start f), marked_twice f gs) refl
  where
    one : (t : Bool) → with_mdt (with_mdt g.format (unwrap_or (if t then Some true else None) (is_modified g.format)))
        (unwrap_or (if t then Some true else None)
        (is_modified (with_mdt g.format (unwrap_or (if t then Some true else None) (is_modified g.format)))))
        ≡ with_mdt g.format (unwrap_or (if t then Some true else None) (is_modified g.format))
    one true = with_mdt-twice g.format true true
    one false = with_mdt-same (with_mdt g.format (is_modified g.format))

-- an edit of the field once it was edited
pub edited_again : (s : ScreenParts) (f : Field) (from to : ℕ) (x y : List ℕ)
    → edited (edited s f from x) (marked f) to y ≡ edited s f to y
edited_again s f from to x y =
    let new = edited s f to y in
    ap (λ (l : List ℕ). let w : ScreenParts =
    record new {
      cells = l;
      fields = map (with_mdt_by (λ a. if starts_at a f then Some true else None))
          (edited s f from x).fields;
    } in w)
    (same_cells _ _ here)
    ∙ ap (λ (l : List Field). let w : ScreenParts = record new { fields = l } in w) (marked_twice f s.fields)
  where
    before : ℕ → ℕ
    before c = unwrap_or (if holds f c then Some (slice_index x (c - f.start)) else None) (slice_index s.cells c)

    go : (c : ℕ) (t : Bool) → holds f c ≡ t
        → unwrap_or (if t then Some (slice_index y (c - f.start)) else None) (before c)
        ≡ unwrap_or (if t then Some (slice_index y (c - f.start)) else None) (slice_index s.cells c)
    go c true e = refl
    go c false e = ap (λ t. unwrap_or (if t then Some (slice_index x (c - f.start)) else None)
        (slice_index s.cells c)) e

    here : (c : ℕ) → c < 1920
        → unwrap_or (if holds f c then Some (slice_index y (c - f.start)) else None)
        (slice_index (map before (range_with_len 0 1920)) c)
        ≡ unwrap_or (if holds f c then Some (slice_index y (c - f.start)) else None) (slice_index s.cells c)
    here c small = ap (unwrap_or (if holds f c then Some (slice_index y (c - f.start)) else None))
        (get_or-map-range_with_len before 0 1920 c c 0 small (omega arith)) ∙ go c (holds f c) refl

-- its cells then
pub edited_cells : (s : ScreenParts) (f : Field) (to : ℕ) (x : List ℕ) → length s.cells ≡ 1920
    → f.start + f.length ≤ 1920 → length x ≡ f.length → cells_of (edited s f to x) (marked f) ≡ x
edited_cells s f to x size within n =
    let front = take f.start s.cells in
    let rest = drop (f.start + f.length) s.cells in
    let whole = front ++ x ++ rest in
    let before : length front ≡ f.start = length-take-le f.start s.cells (omega (arith, size, within)) in
    let all : length whole ≡ 1920 = omega (
      arith,
      length-append (front ++ x) rest,
      length-append front x,
      before,
      n,
      size,
      within,
      length-drop (f.start + f.length) s.cells,
    ) in
    let cells : (edited s f to x).cells ≡ whole = sym (replaced s.cells whole x f size all within refl) in
    ap (λ (l : List ℕ). take (f.start + f.length - f.start) (drop f.start l)) (cells ∙ append_assoc front x rest)
    ∙ ap (λ k. take (f.start + f.length - f.start) (drop k (front ++ (x ++ rest)))) (sym before)
    ∙ ap (λ (l : List ℕ). take (f.start + f.length - f.start) l) (drop-append_seam front (x ++ rest))
    ∙ ap (λ k. take k (x ++ rest)) (let k : f.start + f.length - f.start ≡ length x = omega (arith, n) in k)
    ∙ take-append_seam x rest

-- WHERE IT IS OPEN

-- the field that holds one of its cells, among fields apart
pub held_by : (low : ℕ) (fs : List Field) (f : Field) (a b : ℕ) → AreApart low fs
    → find (λ g. holds g a) fs ≡ Some f → holds f b ≡ true → find (λ g. holds g b) fs ≡ Some f
held_by low [] f a b apart e h = absurd (cc)
held_by low (g ∷ gs) f a b apart e h =
    go (holds g a) refl e (λ later. held_by (g.start + g.length) gs f a b apart.2 later h)
  where
    past : find (λ g. holds g a) gs ≡ Some f → (t : Bool) → holds g b ≡ t → t ≡ false
    past later false p = refl
    past later true p =
        let low = found_low (λ g. holds g a) (g.start + g.length) gs f apart.2 later in
        let own = and_parts (nat_le f.start b) (nat_lt b (f.start + f.length)) h in
        let other = and_parts (nat_le g.start b) (nat_lt b (g.start + g.length)) p in
        absurd (omega (arith, low.0, leb-true f.start b own.0, ltb-true b (g.start + g.length) other.1))

    go : (t : Bool) → holds g a ≡ t → (if t then Some g else find (λ g. holds g a) gs) ≡ Some f
        → (find (λ g. holds g a) gs ≡ Some f → find (λ g. holds g b) gs ≡ Some f)
        → (if holds g b then Some g else find (λ g. holds g b) gs) ≡ Some f
    go true p e ih =
        let same : g ≡ f = ap (λ o. unwrap_or o g) e in
        ap (λ t. if t then Some g else find (λ g. holds g b) gs) (ap (λ x. holds x b) same ∙ h) ∙ e
    go false p e ih =
        ap (λ t. if t then Some g else find (λ g. holds g b) gs) (past e (holds g b) refl) ∙ ih e

find_marked : (f : Field) (c : ℕ) (fs : List Field)
    → find (λ g. holds g c) (map (with_mdt_by (λ a. if starts_at a f then Some true else None)) fs)
    ≡ option_map (with_mdt_by (λ a. if starts_at a f then Some true else None)) (find (λ g. holds g c) fs)
find_marked f c [] = refl
find_marked f c (g ∷ gs) = go (holds g c) (find_marked f c gs)
  where
    mark : Field → Field
    mark = with_mdt_by (λ a. if starts_at a f then Some true else None)

    go : (t : Bool) → find (λ g. holds g c) (map mark gs) ≡ option_map mark (find (λ g. holds g c) gs)
        → (if t then Some (mark g) else find (λ g. holds g c) (map mark gs))
        ≡ option_map mark (if t then Some g else find (λ g. holds g c) gs)
    go true e = refl
    go false e = e

-- the field is open with the cursor in it
pub edited_open : (s : ScreenParts) (f : Field) (to : ℕ) (x : List ℕ) → find (λ g. holds g to) s.fields ≡ Some f
    → is_non_bypass f ≡ true → open_field (edited s f to x) ≡ Some (marked f)
edited_open s f to x e open_ =
    ap (λ o. option_map_or only_open o None) (find_marked f to s.fields ∙ ap (option_map mark) e ∙ ap Some own)
    ∙ ap (λ t. if t then Some (marked f) else None) (ap not (bypass-with_mdt f.format true) ∙ open_)
  where
    mark : Field → Field
    mark = with_mdt_by (λ a. if starts_at a f then Some true else None)

    own : mark f ≡ marked f
    own = ap (λ t. let w : Field = record f {
      format = with_mdt f.format (unwrap_or
          (if t then Some true else None) (is_modified f.format));
    } in w)
        (eq-eqb f.start f.start refl)

-- FROM A CELL ON

-- its cells from a cell on become 00
pub emptied_is : (s : ScreenParts) (f : Field) (c n : ℕ) → length s.cells ≡ 1920 → f.start + f.length ≤ 1920
    → f.start ≤ c → c + n ≡ f.start + f.length
    → edited s f c (take (c - f.start) (cells_of s f) ++ replicate n 0) ≡ after_edit (erasing_edit f c) s
emptied_is s f c n size within low end =
    let new : ScreenParts = after_edit (erasing_edit f c) s in
    ap (λ (l : List ℕ). let w : ScreenParts = record new { cells = l } in w)
    (same_cells _ _ (λ k small. go k (nat_le f.start k) refl (nat_le c k) refl (nat_lt k (f.start + f.length)) refl))
  where
    x : List ℕ
    x = cells_of s f

    front : List ℕ
    front = take (c - f.start) x

    before : length front ≡ c - f.start
    before = length-take-le (c - f.start) x (omega (
      arith,
      low,
      end,
      size,
      within,
      length-drop f.start s.cells,
      length-take-le (f.start + f.length - f.start) (drop f.start s.cells) (omega (
        arith,
        length-drop f.start s.cells,
        size,
        within,
      )),
    ))

    go : (k : ℕ) (t : Bool) → nat_le f.start k ≡ t → (u : Bool) → nat_le c k ≡ u → (v : Bool)
        → nat_lt k (f.start + f.length) ≡ v
        → unwrap_or (if t && v then Some (slice_index (front
        ++ replicate n 0) (k - f.start)) else None) (slice_index s.cells k)
        ≡ unwrap_or (if u && v then Some 0 else None) (slice_index s.cells k)
    go k true p true q true r =
        get_or-append_right front (replicate n 0) (c - f.start) (k - f.start) 0 before (omega (
          arith,
          leb-true c k q,
          leb-true f.start k p,
        ))
        ∙ zeros n (k - f.start - (c - f.start))
    go k true p false q true r =
        let small : k < c = leb-false c k q in
        let le = leb-true f.start k p in
        get_or_append_left front (replicate n 0) 0 (k - f.start) (omega (arith, before, small, le))
        ∙ get_or-take (c - f.start) x (k - f.start) 0 (omega (arith, small, le))
        ∙ get_or-take (f.start + f.length - f.start) (drop f.start s.cells) (k - f.start) 0 (omega (
          arith,
          ltb-true k (f.start + f.length) r,
          le,
        ))
        ∙ get_or-drop f.start s.cells (k - f.start) 0
        ∙ ap (λ j. slice_index s.cells j) (let j : f.start + (k - f.start) ≡ k = omega (arith, le) in j)
    go k true p true q false r = refl
    go k true p false q false r = refl
    go k false p true q v r = absurd (omega (arith, low, leb-true c k q, leb-false f.start k p))
    go k false p false q v r = refl
