-- What the keys of Erase EOF come to, and those of a field that is emptied.
use Rattle.std.specs.Option.{option_map_or}
use Rattle.std.specs.Prelude.{nat_le, nat_lt, slice_get}
use Rattle.std.proofs.Common.{◌≡◌, ℕ, ◌+◌, ◌-◌, ◌<◌, ◌≤◌, List, [], ◌∷◌, ◌++◌, Bool, true, false, Some, None, length}
use Rattle.std.proofs.Common.{if◌then◌else◌, unwrap_or, refl, sym, ap, ◌∙◌, arith, find, take, drop, subst, replicate}
use Rattle.std.proofs.Common.{suc, zero, ◌==◌, is_none, length-append, length-drop}
use Rattle.std.proofs.Math.Seq.{take-append_seam}
use Rattle.std.proofs.lemmas.Bool.{and_from, and_parts, le-leb, lt-ltb, ltb-true, le-ltb}
use Rattle.std.proofs.lemmas.Grind.{flat_map-append}
use Rattle.std.proofs.lemmas.List.{append-nil, append_assoc, length-take-le, length-replicate}
use Rattle.std.proofs.lemmas.List.{replicate-append-replicate, take-append-drop}
use Rattle.ws_code.specs.FormatWord.{with_mdt}
use Rattle.ws_screen.specs.Keyed.{after_edit, cells_of, only_open, open_field}
use Rattle.ws_screen.specs.ScreenParts.{AreApart, IsLegal, ScreenParts, holds, is_non_bypass}
use Rattle.ws_screen.specs.declared.field.Field.{Field}
use Rattle.ws_screen.proofs.EditLemmas.{found_low, open_is, open_within}
use Rattle.ws_keys.specs.Contents.{is_signed}
use Rattle.ws_keys.specs.Edits.{after_delete, digits_of, is_signed_word, sign_of, without_cell}
use Rattle.ws_keys.specs.Keys.{key_refusal, protected_refusal, first_refusal}
use Rattle.ws_keys.specs.Strokes.{LeadTo, emptying_runs, erase_eof_runs, erasing_edit, erasing_runs, keys_of}
use Rattle.ws_keys.specs.Strokes.{numbered_field, run_of, runs_to}
use Rattle.ws_keys.specs.declared.key.Key.{Key}
use Rattle.ws_keys.specs.declared.key.Key.TheVariants.{Left, Right, Delete}
use Rattle.ws_keys.specs.declared.key.KeyRefusal.TheVariants.{Locked, Protected}
use Rattle.ws_keys.proofs.ArrowLaws.{led_on, led_to, to_left, to_right}
use Rattle.ws_keys.proofs.DeletedCells.{IsTail, deleted, deleted_between, length-after_delete}
use Rattle.ws_keys.proofs.EditedScreens.{edited, edited_again, edited_cells, edited_open, edited_size, emptied_is}
use Rattle.ws_keys.proofs.EditedScreens.{held_by, marked, shift_marked}
use Rattle.ws_keys.proofs.StepLemmas.{cursor_in, in_open, past_open}

-- DELETE

-- one Delete in the open field
delete_first : (s : ScreenParts) (f : Field) (keys : List Key) (new : ScreenParts) → s.locked ≡ false
    → open_field s ≡ Some f
    → LeadTo keys (edited s f s.cursor (after_delete f.format (cells_of s f) (s.cursor - f.start))) new
    → LeadTo (Delete ∷ keys) s new
delete_first s f keys new unlocked open_ l = (
  past_open s f [] unlocked open_,
  refl,
  subst (λ w. LeadTo keys w new) (sym (in_open s f (λ f x i. after_delete f.format x i) (λ f. s.cursor) open_)) l,
)

-- whether a field is signed isn't in its MDT
delete_marked : (w : ℕ) (x : List ℕ) (i : ℕ) → after_delete (with_mdt w true) x i ≡ after_delete w x i
delete_marked w x i = ap (λ n. if n == 7 then
    (if nat_lt (i + 1) (length x) then without_cell (digits_of x) i ++ sign_of x else digits_of x ++ 0 ∷ [])
    else without_cell x i) (shift_marked w)

-- a field of a screen at an unlocked keyboard, and a cell of it: where the deleting goes on
record IsAt (s : ScreenParts) (f : Field) (c : ℕ) : Type 0 where
  size : length s.cells ≡ 1920
  unlocked : s.locked ≡ false
  within : f.start + f.length ≤ 1920
  opens : is_non_bypass f ≡ true
  found : find (λ g. holds g c) s.fields ≡ Some f
  low : f.start ≤ c
  high : c < f.start + f.length

-- Deletes in a field that was edited
deletes : (k c : ℕ) (s : ScreenParts) (f : Field) (x : List ℕ) → IsAt s f c → length x ≡ f.length
    → LeadTo (replicate k Delete) (edited s f c x) (edited s f c (deleted k f.format x (c - f.start)))
deletes zero c s f x at n = refl
deletes (suc k) c s f x at n =
    let t = edited s f c x in
    let i = c - f.start in
    let y = after_delete f.format x i in
    let next : edited t (marked f) c (after_delete (marked f).format (cells_of t (marked f)) i) ≡ edited s f c y =
    edited_again s f c c x (after_delete (marked f).format (cells_of t (marked f)) i)
    ∙ ap (edited s f c) (delete_marked f.format (cells_of t (marked f)) i
    ∙ ap (λ l. after_delete f.format l i) (edited_cells s f c x at.size at.within n)) in
    let m : length y ≡ f.length =
    length-after_delete f.format x i (omega (arith, n, at.low, at.high)) ∙ n in
    delete_first t (marked f) (replicate k Delete) (edited s f c (deleted k f.format y i)) at.unlocked
    (edited_open s f c x at.found at.opens)
    (subst (λ w. LeadTo (replicate k Delete) w (edited s f c (deleted k f.format y i))) (sym next)
    (deletes k c s f y at m))

-- one and more in the open field
deletes_open : (k : ℕ) (s : ScreenParts) (f : Field) → IsAt s f s.cursor → open_field s ≡ Some f
    → LeadTo (replicate (suc k) Delete) s
    (edited s f s.cursor (deleted (suc k) f.format (cells_of s f) (s.cursor - f.start)))
deletes_open k s f at open_ =
    let i = s.cursor - f.start in
    let x = cells_of s f in
    delete_first s f (replicate k Delete) _ at.unlocked open_
    (deletes k s.cursor s f (after_delete f.format x i) at
    (length-after_delete f.format x i (omega (arith, size, at.low, at.high)) ∙ size))
  where
    size : length (cells_of s f) ≡ f.length
    size = length-take-le (f.start + f.length - f.start) (drop f.start s.cells)
        (omega (arith, length-drop f.start s.cells, at.size, at.within)) ∙ omega arith

-- ERASING

cells_size : (s : ScreenParts) (f : Field) → length s.cells ≡ 1920 → f.start + f.length ≤ 1920
    → length (cells_of s f) ≡ f.length
cells_size s f size within = length-take-le (f.start + f.length - f.start) (drop f.start s.cells)
    (omega (arith, length-drop f.start s.cells, size, within)) ∙ omega arith

-- a field without a sign: all its cells from the cursor on
erased_plain : (k : ℕ) (s : ScreenParts) (f : Field) → IsAt s f s.cursor → open_field s ≡ Some f
    → is_signed_word f.format ≡ false
    → s.cursor + suc k ≡ f.start + f.length
    → LeadTo (replicate (suc k) Delete) s (after_edit (erasing_edit f s.cursor) s)
erased_plain k s f at open_ plain end =
    subst (LeadTo (replicate (suc k) Delete) s) (ap (edited s f s.cursor) all
    ∙ emptied_is s f s.cursor (suc k) at.size at.within at.low end)
    (deletes_open k s f at open_)
  where
    i : ℕ
    i = s.cursor - f.start

    x : List ℕ
    x = cells_of s f

    n : length x ≡ f.length
    n = cells_size s f at.size at.within

    front : length (take i x) ≡ i
    front = length-take-le i x (omega (arith, n, at.low, at.high))

    rest : length (drop i x) ≡ suc k
    rest = length-drop i x ∙ omega (arith, n, at.low, end)

    all : deleted (suc k) f.format x i ≡ take i x ++ replicate (suc k) 0
    all = ap (λ l. deleted (suc k) f.format l i) (sym (take-append-drop i x)
        ∙ sym (append-nil (take i x ++ drop i x)) ∙ sym (append-nil (take i x ++ drop i x ++ [])))
        ∙ ap (λ j. deleted (suc k) f.format (take i x ++ drop i x ++ [] ++ []) j) (sym front)
        ∙ ap (λ j. deleted j f.format (take i x ++ drop i x ++ [] ++ []) (length (take i x))) (sym rest)
        ∙ deleted_between f.format (take i x) (drop i x) [] [] plain
        ∙ append-nil (take i x ++ [] ++ replicate (length (drop i x)) 0)
        ∙ ap (λ (l : List ℕ). l ++ replicate (length (drop i x)) 0) (append-nil (take i x))
        ∙ ap (λ j. take i x ++ replicate j 0) rest

-- a Delete in the sign cell of a signed numeric field
delete_sign : (w : ℕ) (x : List ℕ) (i : ℕ) → is_signed_word w ≡ true → i + 1 ≡ length x
    → after_delete w x i ≡ take i x ++ 0 ∷ []
delete_sign w x i signed end = rw (signed, le-ltb (i + 1) (length x) (omega (arith, end)))
    (ap (λ k. take k x ++ 0 ∷ []) (let k : length x - 1 ≡ i = omega (arith, end) in k))

-- the last byte as the sign
sign_tail : (w : ℕ) (l : List ℕ) → is_signed_word w ≡ true → length l ≡ 1 → IsTail w l
sign_tail w [] signed n = absurd (omega (arith, n))
sign_tail w (b ∷ []) signed n = signed
sign_tail w (b ∷ c ∷ bs) signed n = absurd (omega (arith, n))

-- the digits from a place on, and then the sign
deleted_digits : (k w i : ℕ) (x : List ℕ) → is_signed_word w ≡ true → i + k + 1 ≡ length x
    → take (i + k) (deleted k w x i) ≡ take i x ++ replicate k 0
deleted_digits k w i x signed end =
    ap (λ l. take (i + k) (deleted k w l i)) parts
    ∙ ap (λ j. take (i + k) (deleted k w (front ++ mid ++ [] ++ tail) j)) (sym n)
    ∙ ap (λ j. take (i + k) (deleted j w (front ++ mid ++ [] ++ tail) (length front))) (sym m)
    ∙ ap (take (i + k)) (deleted_between w front mid [] tail (sign_tail w tail signed one))
    ∙ ap (λ (l : List ℕ). take (i + k) (l ++ replicate (length mid) 0 ++ tail)) (append-nil front)
    ∙ ap (λ j. take (i + k) (front ++ replicate j 0 ++ tail)) m
    ∙ ap (λ j. take j (front ++ replicate k 0 ++ tail)) (sym (length-append front (replicate k 0)
    ∙ omega (arith, n, length-replicate {A = ℕ} k 0)))
    ∙ take-append_seam (front ++ replicate k 0) tail
  where
    front : List ℕ
    front = take i x

    mid : List ℕ
    mid = take k (drop i x)

    tail : List ℕ
    tail = drop k (drop i x)

    n : length front ≡ i
    n = length-take-le i x (omega (arith, end))

    m : length mid ≡ k
    m = length-take-le k (drop i x) (omega (arith, length-drop i x, end))

    one : length tail ≡ 1
    one = length-drop k (drop i x) ∙ omega (arith, length-drop i x, end)

    parts : x ≡ front ++ mid ++ [] ++ tail
    parts = sym (take-append-drop i x) ∙ ap (λ l. front ++ l) (sym (take-append-drop k (drop i x)))
        ∙ sym (append_assoc front mid tail) ∙ ap (λ (l : List ℕ). l ++ tail) (sym (append-nil (front ++ mid)))

length-deleted : (k w : ℕ) (x : List ℕ) (i : ℕ) → i < length x → length (deleted k w x i) ≡ length x
length-deleted zero w x i h = refl
length-deleted (suc k) w x i h =
    let n = length-after_delete w x i h in
    length-deleted k w (after_delete w x i) i (omega (arith, n, h)) ∙ n

-- the same field at another of its cells
at_cell : (s : ScreenParts) (f : Field) (a b : ℕ) → AreApart 0 s.fields → IsAt s f a → f.start ≤ b
    → b < f.start + f.length
    → IsAt s f b
at_cell s f a b apart at low high = record {
  size = at.size;
  unlocked = at.unlocked;
  within = at.within;
  opens = at.opens;
  found = held_by 0 s.fields f a b apart at.found (and_from _ _ (le-leb f.start b low) (lt-ltb b
      (f.start + f.length) high));
  low = low;
  high = high;
}

-- of a signed numeric field the digits and the sign
erased_signed : (k : ℕ) (s : ScreenParts) (f : Field) → AreApart 0 s.fields → IsAt s f s.cursor → open_field s ≡ Some f
    → is_signed_word f.format ≡ true → s.cursor + k + 1 ≡ f.start + f.length
    → LeadTo (replicate k Delete ++ (replicate k Right ++ (Delete ∷ (replicate k Left ++ [])))) s
    (after_edit (erasing_edit f s.cursor) s)
erased_signed zero s f apart at open_ signed end =
    subst (LeadTo (Delete ∷ []) s) (ap (edited s f s.cursor) last
    ∙ emptied_is s f s.cursor 1 at.size at.within at.low (omega (arith, end)))
    (deletes_open 0 s f at open_)
  where
    last : after_delete f.format (cells_of s f) (s.cursor - f.start)
        ≡ take (s.cursor - f.start) (cells_of s f) ++ 0 ∷ []
    last = delete_sign f.format (cells_of s f) (s.cursor - f.start) signed
        (omega (arith, cells_size s f at.size at.within, at.low, end))
erased_signed (suc k) s f apart at open_ signed end =
    led_on (replicate (suc k) Delete) (replicate (suc k) Right ++ (Delete ∷ (replicate (suc k) Left
    ++ []))) s (edited s f c y) new (deletes_open k s f at open_)
    (led_on (replicate (suc k) Right) (Delete ∷ (replicate (suc k) Left ++ [])) (edited s f c y) (edited s f e y) new
    (to_right (suc k) e (edited s f c y) (edited_size s f c y) at.unlocked (omega (arith, within, high)) refl)
    (led_on (Delete ∷ []) (replicate (suc k) Left ++ []) (edited s f e y) (edited s f e z) new
    (deletes 1 e s f y there (length-deleted (suc k) f.format x i (omega (arith, n, at.low, at.high)) ∙ n))
    (subst (λ l. LeadTo l (edited s f e z) new) (sym (append-nil (replicate (suc k) Left)))
    (subst (LeadTo (replicate (suc k) Left) (edited s f e z)) final
    (to_left (suc k) c (edited s f e z) (edited_size s f e z) at.unlocked (omega (arith, within, high)) refl)))))
  where
    c : ℕ
    c = s.cursor

    i : ℕ
    i = c - f.start

    e : ℕ
    e = c + suc k

    x : List ℕ
    x = cells_of s f

    new : ScreenParts
    new = after_edit (erasing_edit f c) s

    y : List ℕ
    y = deleted (suc k) f.format x i

    z : List ℕ
    z = after_delete f.format y (e - f.start)

    within : f.start + f.length ≤ 1920
    within = at.within

    high : e < f.start + f.length
    high = omega (arith, end)

    n : length x ≡ f.length
    n = cells_size s f at.size at.within

    there : IsAt s f e
    there = at_cell s f c e apart at (omega (arith, at.low)) high

    place : e - f.start ≡ i + suc k
    place = omega (arith, at.low)

    emptied : z ≡ take i x ++ replicate (suc (suc k)) 0
    emptied = delete_sign f.format y (e - f.start) signed
        (omega (arith, place, length-deleted (suc k) f.format x i (omega (arith, n, at.low, at.high)), n, at.low, end))
        ∙ ap (λ j. take j y ++ 0 ∷ []) place
        ∙ ap (λ (l : List ℕ). l ++ 0 ∷ []) (deleted_digits (suc k) f.format i x signed (omega (arith, n, at.low, end)))
        ∙ append_assoc (take i x) (replicate (suc k) 0) (0 ∷ [])
        ∙ ap (λ (l : List ℕ). take i x ++ l) (replicate-append-replicate (suc k) 1 0
        ∙ ap (λ j. replicate j 0) (let j : suc k + 1 ≡ suc (suc k) = omega arith in j))

    final : edited s f c z ≡ new
    final = ap (edited s f c) emptied ∙ emptied_is s f c (suc (suc k)) at.size at.within at.low (omega (arith, end))

-- the cells of the open field from the cursor on
pub led_to_erased : (s : ScreenParts) (f : Field) → IsLegal s → s.locked ≡ false → open_field s ≡ Some f
    → LeadTo (keys_of (erasing_runs f (f.start + f.length - s.cursor))) s (after_edit (erasing_edit f s.cursor) s)
led_to_erased s f legal unlocked open_ = go (f.start + f.length - s.cursor) refl (is_signed f) refl
  where
    inside : (f.start ≤ s.cursor) × (s.cursor < f.start + f.length)
    inside = cursor_in s f open_

    at : IsAt s f s.cursor
    at = record {
      size = legal.size;
      unlocked = unlocked;
      within = (open_within s f legal open_).1;
      opens = (open_is s f open_).1;
      found = (open_is s f open_).0;
      low = inside.0;
      high = inside.1;
    }

    go : (n : ℕ) → f.start + f.length - s.cursor ≡ n → (t : Bool) → is_signed f ≡ t
        → LeadTo (keys_of (if t then run_of Delete (n - 1) ∷ run_of Right (n - 1) ∷ run_of Delete 1 ∷ run_of Left
        (n - 1) ∷ []
        else run_of Delete n ∷ [])) s (after_edit (erasing_edit f s.cursor) s)
    go zero e t q = absurd (omega (arith, e, inside.1))
    go (suc k) e true q = subst (λ j. LeadTo (replicate j Delete ++ (replicate j Right
        ++ (Delete ∷ (replicate j Left ++ [])))) s
        (after_edit (erasing_edit f s.cursor) s)) (let j : k ≡ suc k - 1 = omega arith in j)
        (erased_signed k s f legal.apart at open_ q (omega (arith, e, inside.1)))
    go (suc k) e false q = subst (λ l. LeadTo l s (after_edit (erasing_edit f s.cursor) s)) (sym (append-nil
        (replicate (suc k) Delete)))
        (erased_plain k s f at open_ q (omega (arith, e, inside.1)))

-- Erase EOF
pub eof_erased : (s : ScreenParts) (f : Field) → IsLegal s → s.locked ≡ false → open_field s ≡ Some f
    → LeadTo (keys_of (erase_eof_runs s)) s (after_edit (erasing_edit f s.cursor) s)
eof_erased s f legal unlocked open_ =
    subst (λ o. LeadTo (keys_of (option_map_or (λ f. erasing_runs f (f.start + f.length - s.cursor)) o
    (run_of Delete 1 ∷ []))) s
    (after_edit (erasing_edit f s.cursor) s)) (sym open_) (led_to_erased s f legal unlocked open_)

pub eof_refused : (s : ScreenParts) → s.locked ≡ false → open_field s ≡ None
    → (keys_of (erase_eof_runs s) ≡ Delete ∷ []) × (key_refusal s Delete ≡ Some Protected)
eof_refused s unlocked none = (
  ap (λ o. keys_of (option_map_or (λ f. erasing_runs f (f.start + f.length - s.cursor)) o (run_of Delete 1 ∷ []))) none,
  ap (λ t. if t then Some Locked else first_refusal (protected_refusal s ∷ [])) unlocked
      ∙ ap (λ o. if is_none o then Some Protected else None) none,
)

-- the field of a number is the one that holds its first cell
started : (low : ℕ) (fs : List Field) (f : Field) (i : ℕ) → AreApart low fs → slice_get fs i ≡ Some f
    → (find (λ g. holds g f.start) fs ≡ Some f) × (low ≤ f.start)
started low [] f i apart e = absurd (cc)
started low (g ∷ gs) f zero apart e =
    let same : g ≡ f = ap (λ o. unwrap_or o g) e in
    let own : holds g f.start ≡ true = subst (λ x. holds x f.start ≡ true) (sym same)
    (and_from _ _ (le-leb f.start f.start (omega arith)) (lt-ltb f.start (f.start + f.length)
    (omega (arith, subst (λ x. 1 ≤ x.length) same apart.1)))) in (
      ap (λ t. if t then Some g else find (λ g. holds g f.start) gs) own ∙ e,
      subst (λ x. low ≤ x.start) same apart.0,
    )
started low (g ∷ gs) f (suc i) apart e =
    let rest = started (g.start + g.length) gs f i apart.2 e in (
      ap (λ t. if t then Some g else find (λ g. holds g f.start) gs) (past (holds g f.start) refl rest.1) ∙ rest.0,
      omega (arith, rest.1, apart.0),
    )
  where
    past : (t : Bool) → holds g f.start ≡ t → g.start + g.length ≤ f.start → t ≡ false
    past false p h = refl
    past true p h = absurd (omega (
      arith,
      h,
      ltb-true f.start (g.start + g.length) (and_parts
          (nat_le g.start f.start) _ p).1,
    ))

pub field_emptied : (s : ScreenParts) (number : ℕ) (f : Field) → IsLegal s → s.locked ≡ false → s.cursor < 1920
    → numbered_field s number ≡ Some f → is_non_bypass f ≡ true
    → LeadTo (keys_of (emptying_runs s.cursor f)) s (after_edit (erasing_edit f f.start) s)
field_emptied s number f legal unlocked small e opens = go (number == 0) e
  where
    done : (i : ℕ) → slice_get s.fields i ≡ Some f
        → LeadTo (keys_of (emptying_runs s.cursor f)) s (after_edit (erasing_edit f f.start) s)
    done i e =
        let found = (started 0 s.fields f i legal.apart e).0 in
        let there : ScreenParts = record s { cursor = f.start } in
        let open_ : open_field there ≡ Some f = ap (λ o. option_map_or only_open o None) found
        ∙ ap (λ t. if t then Some f else None) opens in
        let within = found_low (λ g. holds g f.start) 0 s.fields f legal.apart found in
        let legal' : IsLegal there = record {
          size = legal.size;
          clean = legal.clean;
          apart = legal.apart;
          few = legal.few;
          within = legal.within;
          switched = legal.switched;
        } in
        subst (λ keys. LeadTo keys s (after_edit (erasing_edit f f.start) s))
        (sym (flat_map-append (λ r. replicate r.times r.key) (runs_to s.cursor f.start) (erasing_runs f f.length)))
        (led_on (keys_of (runs_to s.cursor f.start)) (keys_of (erasing_runs f f.length)) s there _
        (led_to s f.start legal unlocked small (omega (arith, within.1, within.2)))
        (subst (λ n. LeadTo (keys_of (erasing_runs f n)) there (after_edit (erasing_edit f f.start) s))
        (let n : f.start + f.length - f.start ≡ f.length = omega arith in n)
        (led_to_erased there f legal' unlocked open_)))

    go : (t : Bool) → (if t then None else slice_get s.fields (number - 1)) ≡ Some f
        → LeadTo (keys_of (emptying_runs s.cursor f)) s (after_edit (erasing_edit f f.start) s)
    go true e = absurd (cc)
    go false e = done (number - 1) e
