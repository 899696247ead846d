-- Cells that are deleted one after another at one place.
use Rattle.std.specs.Prelude.{nat_lt}
use Rattle.std.proofs.Common.{◌≡◌, ℕ, ◌+◌, ◌-◌, ◌<◌, List, [], ◌∷◌, ◌++◌, Bool, true, false, length, if◌then◌else◌}
use Rattle.std.proofs.Common.{refl, sym, ap, ◌∙◌, arith, take, drop, replicate, length-append, length-drop, suc, zero}
use Rattle.std.proofs.Math.Seq.{drop-append-add, take-append_seam, drop-append_seam}
use Rattle.std.proofs.lemmas.Bool.{lt-ltb, ltb-true}
use Rattle.std.proofs.lemmas.List.{append-nil, append_assoc, length-take-le}
use Rattle.ws_keys.specs.Edits.{after_delete, is_signed_word, without_cell}

-- so many cells are deleted at one place
abbrev pub deleted : ℕ → ℕ → List ℕ → ℕ → List ℕ
deleted zero w x i = x
deleted (suc k) w x i = deleted k w (after_delete w x i) i

-- what stands after the cells that a Delete moves: the sign, or nothing
abbrev pub IsTail : ℕ → List ℕ → Type 0
IsTail w [] = is_signed_word w ≡ false
IsTail w (b ∷ []) = is_signed_word w ≡ true
IsTail w (b ∷ c ∷ bs) = ⊥

delete_before : (w : ℕ) (d tail : List ℕ) (i : ℕ) → IsTail w tail → i < length d
    → after_delete w (d ++ tail) i ≡ without_cell d i ++ tail
delete_before w d [] i e h = rw (append-nil d, e) (sym (append-nil (without_cell d i)))
delete_before w d (b ∷ []) i e h =
    let n : length (d ++ b ∷ []) ≡ length d + 1 = length-append d (b ∷ []) in
    let less : length (d ++ b ∷ []) - 1 ≡ length d = omega (arith, n) in
    rw (
      e,
      lt-ltb (i + 1) (length (d ++ b ∷ [])) (omega (arith, n, h)),
      less,
      take-append_seam d (b ∷ []),
      drop-append_seam d (b ∷ []),
    ) refl
delete_before w d (b ∷ c ∷ bs) i e h = absurd e

-- one cell between two parts
without_between : (a m z : List ℕ) (y : ℕ) → without_cell (a ++ y ∷ m ++ z) (length a) ≡ a ++ m ++ (z ++ 0 ∷ [])
without_between a m z y =
    ap (λ (l : List ℕ). take (length a) l ++ drop (length a + 1) l ++ 0 ∷ []) (append_assoc a (y ∷ m) z)
    ∙ ap (λ (l : List ℕ). l ++ drop (length a + 1) (a ++ (y ∷ m ++ z)) ++ 0 ∷ []) (take-append_seam a (y ∷ m ++ z))
    ∙ ap (λ (l : List ℕ). a ++ l ++ 0 ∷ []) (drop-append-add a (y ∷ m ++ z) 1)
    ∙ ap (λ (l : List ℕ). l ++ 0 ∷ []) (sym (append_assoc a m z))
    ∙ append_assoc (a ++ m) z (0 ∷ [])

-- all cells of a middle part
pub deleted_between : (w : ℕ) (a m z tail : List ℕ) → IsTail w tail
    → deleted (length m) w (a ++ m ++ z ++ tail) (length a) ≡ a ++ z ++ replicate (length m) 0 ++ tail
deleted_between w a [] z tail t = ap (λ (l : List ℕ). l ++ z ++ tail) (append-nil a)
    ∙ ap (λ (l : List ℕ). l ++ tail) (sym (append-nil (a ++ z)))
deleted_between w a (y ∷ m) z tail t =
    let n : length (a ++ y ∷ m ++ z) ≡ length a + suc (length m) + length z =
    length-append (a ++ y ∷ m) z ∙ ap (λ k. k + length z) (length-append a (y ∷ m)) in
    ap (λ (l : List ℕ). deleted (length m) w l (length a))
    (delete_before w (a ++ y ∷ m ++ z) tail (length a) t (omega (arith, n))
    ∙ ap (λ (l : List ℕ). l ++ tail) (without_between a m z y))
    ∙ deleted_between w a m (z ++ 0 ∷ []) tail t
    ∙ ap (λ (l : List ℕ). l ++ replicate (length m) 0 ++ tail) (sym (append_assoc a z (0 ∷ [])))
    ∙ ap (λ (l : List ℕ). l ++ tail) (append_assoc (a ++ z) (0 ∷ []) (replicate (length m) 0))

-- a Delete keeps the number of cells
pub length-after_delete : (w : ℕ) (x : List ℕ) (i : ℕ) → i < length x → length (after_delete w x i) ≡ length x
length-after_delete w x i h = go (is_signed_word w) refl
  where
    without : (d : List ℕ) → i < length d → length (without_cell d i) ≡ length d
    without d h = length-append (take i d ++ drop (i + 1) d) (0 ∷ [])
        ∙ omega (
          arith,
          length-append (take i d) (drop (i + 1) d),
          length-take-le i d (omega arith),
          length-drop (i + 1) d,
        )

    front : length (take (length x - 1) x) ≡ length x - 1
    front = length-take-le (length x - 1) x (omega arith)

    rest : length (drop (length x - 1) x) ≡ 1
    rest = length-drop (length x - 1) x ∙ omega (arith, h)

    inside : (t : Bool) → nat_lt (i + 1) (length x) ≡ t
        → length (if t then without_cell (take (length x - 1) x) i
        ++ drop (length x - 1) x else take (length x - 1) x ++ 0 ∷ [])
        ≡ length x
    inside true e =
        let d = take (length x - 1) x in
        length-append (without_cell d i) (drop (length x - 1) x)
        ∙ omega (arith, without d (omega (arith, front, ltb-true (i + 1) (length x) e)), front, rest)
    inside false e = length-append (take (length x - 1) x) (0 ∷ []) ∙ omega (arith, front, h)

    go : (t : Bool) → is_signed_word w ≡ t → length (after_delete w x i) ≡ length x
    go true e = rw e (inside (nat_lt (i + 1) (length x)) refl)
    go false e = rw e (without x h)
