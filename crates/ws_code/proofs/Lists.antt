use Rattle.std.specs.List.{flat_map, AllByRecursion}
use Rattle.std.proofs.Common.{◌≡◌, ℕ, List, [], ◌∷◌, ◌++◌, take, drop, refl, sym, ap, ◌∙◌, ◌<◌, ◌⊎◌, length, ◌≤◌, inl}
use Rattle.std.proofs.Common.{inr, arith, ◌+◌, zero, suc, get_or, ◌-◌, length-append, length-take}
use Rattle.std.proofs.lemmas.Grind.{flat_map-append}
use Rattle.std.proofs.lemmas.List.{append-nil, take-append-drop, take_more, length-take-le, drop-append-le, take_all}
use Rattle.std.proofs.lemmas.List.{take-take, drop-take}
use Rattle.ws_code.proofs.CodeLaws.{one_begins, no_end}
use Rattle.ws_code.proofs.DeviceLaws.{rest_from}

-- Lists: their fronts and ends, runs of their elements, and what holds of each element.

-- the elements from one place up to another
abbrev pub run : List ℕ → ℕ → ℕ → List ℕ
run bytes start at = drop start (take at bytes)

pub run_more : (bytes : List ℕ) (start at : ℕ) → start ≤ at → at < length bytes → run bytes start (at + 1)
    ≡ run bytes start at ++ get_or bytes at 0 ∷ []
run_more bytes start at h k =
    let front : length (take at bytes) ≡ at = length-take-le at bytes (omega arith) in
    ap (drop start) (take_more bytes at 0 k) ∙ drop-append-le start (take at bytes) (get_or bytes at 0 ∷ [])
    (omega arith)

pub run_none : (bytes : List ℕ) (at : ℕ) → run bytes at at ≡ []
run_none bytes at = ap (λ n. drop at (take n bytes)) (omega arith) ∙ drop-take at 0 bytes

-- `&bytes[start..=at]`
pub run_slice : (bytes : List ℕ) (start at : ℕ) → start ≤ at
    → take (at - start) (drop start bytes) ≡ run bytes start at
run_slice bytes start at h = sym (drop-take start (at - start) bytes)
    ∙ ap (λ n. drop start (take n bytes)) (omega arith)

-- `&bytes[start..]`
pub run_rest : (bytes : List ℕ) (start at : ℕ) → length bytes ≤ at → take (length bytes - start) (drop start bytes)
    ≡ run bytes start at
run_rest bytes start at h = rest_from bytes start ∙ ap (drop start) (sym (take_all at bytes h))

-- a list's spelling through one element, and the whole of it
pub spelled_more : {X : Type 0} (spell : X → List ℕ) (xs : List X) (i : ℕ) (x : X) → i < length xs → x ≡ get_or xs i x
    → flat_map spell (take (i + 1) xs) ≡ flat_map spell (take i xs) ++ spell x
spelled_more spell xs i x k e = rw (take_more xs i x k, flat_map-append spell (take i xs), ← e, append-nil (spell x))

pub spelled_through : {X : Type 0} (spell : X → List ℕ) (xs : List X) (i : ℕ) (x : X) → i < length xs → x
    ≡ get_or xs i x → (flat_map spell (take i xs) ++ spell x) ++ flat_map spell (drop (i + 1) xs) ≡ flat_map spell xs
spelled_through spell xs i x k e =
    rw
    (← spelled_more spell xs i x k e, ← flat_map-append spell (take (i + 1) xs) (drop (i + 1) xs), take-append-drop)

pub length_through : {X : Type 0} (spell : X → List ℕ) (xs : List X) (i : ℕ) (x : X) → i < length xs
    → x ≡ get_or xs i x → length (flat_map spell (take i xs)) + length (spell x) ≤ length (flat_map spell xs)
length_through spell xs i x k e =
    let front : List ℕ = flat_map spell (take i xs) in
    let back : List ℕ = flat_map spell (drop (i + 1) xs) in
    omega (
      arith,
      ap length (spelled_through spell xs i x k e),
      length-append (front ++ spell x) back,
      length-append front (spell x),
    )

-- ten cells and the rest
pub ten_cells : (xs : List ℕ) → 10 ≤ length xs
    → xs
    ≡ get_or xs 0 0 ∷ get_or xs 1 0 ∷ get_or xs 2 0 ∷ get_or xs 3 0 ∷ get_or xs 4 0 ∷ get_or xs 5 0 ∷ get_or xs 6 0
    ∷ get_or xs 7 0 ∷ get_or xs 8 0 ∷ get_or xs 9 0 ∷ drop 10 xs
ten_cells (a ∷ b ∷ c ∷ d ∷ e ∷ f ∷ g ∷ h ∷ i ∷ j ∷ xs) k = refl
ten_cells xs k = absurd (omega arith)

-- bytes that are fewer than ten are all of their first ten
pub take_short : (xs : List ℕ) → length (take 10 xs) < 10 → take 10 xs ≡ xs
take_short xs h = take_all 10 xs (omega (arith, length-take 10 xs))

pub empty_take : (xs : List ℕ) → take 10 xs ≡ [] → xs ≡ []
empty_take [] e = refl
empty_take (x ∷ xs) e = cc

-- the front of what stands behind so many elements
pub drop-front : {X : Type 0} (n : ℕ) (xs ys : List X) → (m : List X) × (drop n (xs ++ ys) ≡ drop n xs ++ m)
drop-front zero xs ys = (ys, refl)
drop-front (suc n) [] ys = (drop (suc n) ys, refl)
drop-front (suc n) (x ∷ xs) ys = drop-front n xs ys

-- a front of a front
pub same_front : (piece : List ℕ) (used count : ℕ) → used ≤ length (take count piece) → take used (take count piece)
    ≡ take used piece
same_front piece used count k = take-take used count piece (omega (arith, length-take count piece))

-- the last element of a list, if it has one
pub last_of : {X : Type 0} (xs : List X) → (xs ≡ []) ⊎ ((ys : List X) × (y : X) × (xs ≡ ys ++ y ∷ []))
last_of [] = inl refl
last_of (x ∷ xs) = elim (last_of xs) [
  | inl e ↦ inr ([], x, ap (λ l. x ∷ l) e)
  | inr q ↦ inr (x ∷ q.0, q.1, ap (λ l. x ∷ l) q.2)
]

-- the end of a list of one
pub one_last : {X : Type 0} (x : X) (front : List X) (v : X) → x ∷ [] ≡ front ++ v ∷ [] → (front ≡ []) × (v ≡ x)
one_last x [] v e = (refl, cc)
one_last x (y ∷ front) v e = absurd (no_end front v [] cc)

-- lists that end alike
pub same_last : {X : Type 0} (xs ys : List X) (x y : X) → xs ++ x ∷ [] ≡ ys ++ y ∷ [] → (xs ≡ ys) × (x ≡ y)
same_last [] [] x y e = (refl, (let f : x ≡ y = cc in f))
same_last [] (b ∷ ys) x y e = let f : [] ≡ ys ++ y ∷ [] = cc in absurd (no_end ys y [] f)
same_last (a ∷ xs) [] x y e = let f : xs ++ x ∷ [] ≡ [] = cc in absurd (no_end xs x [] (sym f))
same_last (a ∷ xs) (b ∷ ys) x y e =
    let head : a ≡ b = cc in
    let rest = same_last xs ys x y (let f : xs ++ x ∷ [] ≡ ys ++ y ∷ [] = cc in f) in
    (ap (λ z. z ∷ xs) head ∙ ap (λ zs. b ∷ zs) rest.0, rest.1)

-- the parts of an empty list are empty
pub both_empty : (x z : List ℕ) → [] ≡ x ++ z → (x ≡ []) × (z ≡ [])
both_empty [] z e = (refl, sym e)
both_empty (b ∷ x) z e = cc

-- bytes before the last one
pub all_but_last : (before : List ℕ) (b : ℕ) (x w : List ℕ) → before ++ b ∷ [] ≡ x ++ w → (w ≡ [] → ⊥) → (y : List ℕ)
    × (before ≡ x ++ y)
all_but_last before b x w e some = elim (one_begins before x (b ∷ []) w e) [
  | inl p ↦ left_over _ p.1 p.2
  | inr p ↦ (p.0, p.1)
] where
  left_over : (r : List ℕ) → x ≡ before ++ r → b ∷ [] ≡ r ++ w → (y : List ℕ) × (before ≡ x ++ y)
  left_over [] f g = ([], sym (append-nil x ∙ f ∙ append-nil before))
  left_over (c ∷ r) f g = absurd (some (both_empty r w cc).1)

-- what holds of each element of lists that are parts of others
pub AllByRecursion-append : {X : Type 0} (P : X → Type 0) (xs ys : List X) → AllByRecursion P xs → AllByRecursion P ys
    → AllByRecursion P (xs ++ ys)
AllByRecursion-append P [] ys h k = k
AllByRecursion-append P (x ∷ xs) ys h k = (h.0, AllByRecursion-append P xs ys h.1 k)

pub AllByRecursion-last : {X : Type 0} (P : X → Type 0) (xs : List X) (x : X) → AllByRecursion P (xs ++ x ∷ []) → P x
AllByRecursion-last P [] x h = h.0
AllByRecursion-last P (y ∷ xs) x h = AllByRecursion-last P xs x h.1

pub AllByRecursion-front : {X : Type 0} (P : X → Type 0) (xs ys : List X) → AllByRecursion P (xs ++ ys)
    → AllByRecursion P xs
AllByRecursion-front P [] ys h = tt
AllByRecursion-front P (x ∷ xs) ys h = (h.0, AllByRecursion-front P xs ys h.1)

pub AllByRecursion-both : {X : Type 0} (P Q : X → Type 0) (xs : List X) → AllByRecursion P xs → AllByRecursion Q xs
    → AllByRecursion (λ x. P x × Q x) xs
AllByRecursion-both P Q [] h k = tt
AllByRecursion-both P Q (x ∷ xs) h k = ((h.0, k.0), AllByRecursion-both P Q xs h.1 k.1)
